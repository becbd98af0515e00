-- The count of the pairs from the events so far, which is no greater than the limits allow.
use Rattle.plan_num.proofs.Common.{◌≡◌, ◌*◌, ◌≤◌, List, length, take, flat_map}
use Rattle.giv_files.specs.declared.setting.Setting.{Setting}
use Rattle.event_activity.specs.Activities.{from_event}
use Rattle.event_activity.proofs.activities.count_joined.Given as goal

abbrev pub invariant-loop-event : goal.invariant-loop-event
invariant-loop-event l =
    record {
      told : (settings : List Setting) → l.count ≡ length
          (flat_map (from_event settings l.joining l.events) (take l.event-index l.events));
      few : l.count ≤ 4000 * l.event-index;
    }
