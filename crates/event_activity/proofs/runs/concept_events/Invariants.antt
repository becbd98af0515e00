-- The events of the lines so far.
use Rattle.plan_num.proofs.Common.{◌≡◌, take, flat_map}
use Rattle.event_activity.specs.Runs.{line_events}
use Rattle.event_activity.proofs.runs.concept_events.Given as goal

abbrev pub invariant-loop-line : goal.invariant-loop-line
invariant-loop-line l = l.events.items ≡ flat_map (line_events l.network) (take l.line l.pool)
