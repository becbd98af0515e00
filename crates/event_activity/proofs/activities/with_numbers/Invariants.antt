-- The activities so far, with their places.
use Rattle.plan_num.proofs.Common.{◌≡◌, take}
use Rattle.event_activity.specs.Activities.{with_numbers}
use Rattle.event_activity.proofs.activities.with_numbers.Given as goal

abbrev pub invariant-loop-place : goal.invariant-loop-place
invariant-loop-place l = l.numbered.items ≡ with_numbers (take l.place l.activities)
