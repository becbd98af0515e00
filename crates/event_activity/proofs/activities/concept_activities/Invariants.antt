-- The activities of the joinings so far are added.
use Rattle.plan_num.proofs.Common.{◌≡◌, take, flat_map}
use Rattle.event_activity.specs.Activities.{joined_events}
use Rattle.event_activity.proofs.activities.concept_activities.Given as goal

abbrev pub invariant-loop-joining : goal.invariant-loop-joining
invariant-loop-joining l =
    l.activities.items
    ≡ flat_map (joined_events l.settings l.events) (take l.joining-index l.joining-items)
