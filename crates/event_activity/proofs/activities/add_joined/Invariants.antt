-- The activities from the events so far are added.
use Rattle.plan_num.proofs.Common.{◌≡◌, ◌++◌, take, flat_map}
use Rattle.event_activity.specs.Activities.{from_event}
use Rattle.event_activity.proofs.activities.add_joined.Given as goal

abbrev pub invariant-loop-event : goal.invariant-loop-event
invariant-loop-event l =
    l.activities.items ≡ l.fn.activities.items ++ flat_map
    (from_event l.settings l.joining l.events) (take l.event-index l.events)
