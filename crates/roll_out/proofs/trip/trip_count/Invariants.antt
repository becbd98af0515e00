-- What holds before each turn.
use Rattle.plan_num.proofs.Common.{◌≡◌, ◌*◌, ◌≤◌, take}
use Rattle.roll_out.specs.Plans.{trip_total}
use Rattle.roll_out.proofs.trip.trip_count.Given as goal

abbrev pub invariant-loop-plan : goal.invariant-loop-plan
invariant-loop-plan l = record {
  told : l.count ≡ trip_total (take l.plan-index l.plans);
  few : l.count ≤ 10081 * l.plan-index;
}
