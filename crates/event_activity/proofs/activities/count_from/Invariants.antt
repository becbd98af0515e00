-- The count of the events so far that the event is joined to.
use Rattle.plan_num.proofs.Common.{◌≡◌, ◌≤◌, filter, length, take}
use Rattle.event_activity.specs.Activities.{joined}
use Rattle.event_activity.proofs.activities.count_from.Given as goal

abbrev pub invariant-loop-other : goal.invariant-loop-other
invariant-loop-other l =
    record {
      told : l.count ≡ length (filter (joined l.joining l.event) (take l.other-index l.nexts));
      few : l.count ≤ l.other-index;
    }
