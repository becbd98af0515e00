-- The activities to the events so far are added.
use Rattle.plan_num.proofs.Common.{◌≡◌, ◌++◌, take}
use Rattle.event_activity.specs.Activities.{from_event}
use Rattle.event_activity.proofs.activities.add_from.Given as goal

abbrev pub invariant-loop-next : goal.invariant-loop-next
invariant-loop-next l =
    l.activities.items
    ≡ l.fn.activities.items ++ from_event l.settings l.joining (take l.next-index l.nexts) l.event
