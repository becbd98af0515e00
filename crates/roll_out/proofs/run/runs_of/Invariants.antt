-- What holds before each turn.
use Rattle.plan_num.proofs.Common.{◌≡◌, ◌++◌, length}
use Rattle.event_tables.proofs.Common.{runs_of}
use Rattle.roll_out.proofs.run.runs_of.Given as goal

abbrev pub invariant-loop-rest : goal.invariant-loop-rest
invariant-loop-rest l = l.runs.items ++ runs_of l.rest ≡ runs_of l.events

abbrev pub decreases-loop-rest : goal.decreases-loop-rest
decreases-loop-rest l = length l.rest
