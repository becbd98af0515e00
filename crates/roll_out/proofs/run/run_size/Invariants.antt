-- What holds before each turn.
use Rattle.plan_num.proofs.Common.{◌≡◌, ◌-◌, take, drop, get_or}
use Rattle.event_tables.proofs.Common.{runs_of}
use Rattle.roll_out.specs.TimedRuns.{no_event}
use Rattle.roll_out.proofs.RunsInTurn.{onto}
use Rattle.roll_out.proofs.run.run_size.Given as goal

abbrev pub invariant-loop-index : goal.invariant-loop-index
invariant-loop-index l =
    runs_of l.events
    ≡ onto (get_or l.events (l.index - 1) no_event) (take l.index l.events)
    (runs_of (drop l.index l.events))
