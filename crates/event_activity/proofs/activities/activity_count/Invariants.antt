-- The count of the activities of the joinings so far.
use Rattle.plan_num.proofs.Common.{◌≡◌, ◌*◌, ◌≤◌, length, take, flat_map}
use Rattle.event_activity.specs.Activities.{joined_events}
use Rattle.event_activity.proofs.activities.activity_count.Given as goal

abbrev pub invariant-loop-joining : goal.invariant-loop-joining
invariant-loop-joining l =
    record {
      told : l.count ≡ length
          (flat_map (joined_events l.settings l.events) (take l.joining-index l.joining-items));
      few : l.count ≤ 16000000 * l.joining-index;
    }
