-- What holds before each turn.
use Rattle.plan_num.proofs.Common.{◌≡◌, ◌+◌, ◌++◌, drop}
use Rattle.roll_out.specs.Plans.{copies_by, event_total}
use Rattle.roll_out.proofs.copies.copies_by.Given as goal

abbrev pub invariant-loop-plan : goal.invariant-loop-plan
invariant-loop-plan l = record {
  told : l.copies.items ++ copies_by l.first (drop l.plan-index l.plans) ≡ copies_by 1 l.plans;
  ids : l.first + event_total (drop l.plan-index l.plans) ≡ 1 + event_total l.plans;
}
