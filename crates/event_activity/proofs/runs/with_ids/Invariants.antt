-- The events so far, with their places.
use Rattle.plan_num.proofs.Common.{◌≡◌, take}
use Rattle.event_activity.specs.Runs.{with_ids}
use Rattle.event_activity.proofs.runs.with_ids.Given as goal

abbrev pub invariant-loop-place : goal.invariant-loop-place
invariant-loop-place l = l.numbered.items ≡ with_ids (take l.place l.events)
