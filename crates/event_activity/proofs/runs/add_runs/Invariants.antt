-- The runs so far are added.
use Rattle.plan_num.proofs.Common.{◌≡◌, ◌++◌, flat_map, range_with_len}
use Rattle.event_activity.specs.Runs.{line_at, run}
use Rattle.event_activity.proofs.runs.add_runs.Given as goal

abbrev pub invariant-loop-before : goal.invariant-loop-before
invariant-loop-before l =
    l.events.items
    ≡ l.fn.events.items ++ flat_map (run l.network (line_at l.pool l.line) l.direction)
    (range_with_len 1 l.before)
