-- What holds before each turn.
use Rattle.plan_num.proofs.Common.{◌≡◌, ◌*◌, ◌≤◌, take}
use Rattle.roll_out.specs.Plans.{event_total}
use Rattle.roll_out.proofs.trip.event_count.Given as goal

abbrev pub invariant-loop-plan : goal.invariant-loop-plan
invariant-loop-plan l = record {
  told : l.count ≡ event_total (take l.plan-index l.plans);
  few : l.count ≤ 40324000 * l.plan-index;
}
