-- The events of the run so far are added.
use Rattle.plan_num.proofs.Common.{◌≡◌, ◌++◌, map, range_with_len}
use Rattle.event_activity.specs.Runs.{line_at, run_event}
use Rattle.event_activity.proofs.runs.add_run.Given as goal

abbrev pub invariant-loop-place : goal.invariant-loop-place
invariant-loop-place l =
    l.events.items
    ≡ l.fn.events.items ++ map
    (run_event l.network (line_at l.pool l.line) l.direction l.repetition)
    (range_with_len 0 l.place)
