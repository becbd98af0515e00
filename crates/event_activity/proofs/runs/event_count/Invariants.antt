-- The count of the events of the lines so far, which is no greater than the limits allow.
use Rattle.plan_num.proofs.Common.{◌≡◌, ◌*◌, ◌≤◌, length, take, flat_map}
use Rattle.event_activity.specs.Runs.{line_events}
use Rattle.event_activity.proofs.runs.event_count.Given as goal

abbrev pub invariant-loop-line : goal.invariant-loop-line
invariant-loop-line l =
    record {
      told : l.count ≡ length (flat_map (line_events l.network) (take l.line l.pool));
      few : l.count ≤ 4000000 * l.line;
    }
