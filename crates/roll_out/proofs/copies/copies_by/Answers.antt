use Rattle.plan_num.proofs.Common.{◌+◌}
use Rattle.roll_out.specs.Plans.{plan_copies, copies_by, event_total}
use Rattle.roll_out.proofs.Growing.{all_moved, moved, plan_size, total_left, copies_more, copies_none}
use Rattle.roll_out.proofs.copies.copies_by.Goals as goal

pub loop-plan-preserved : goal.loop-plan-preserved
loop-plan-preserved c = record {
  told = moved copies_by plan_copies plan_size copies_more copies_none c.args.plans.now
      (copies_by 1 c.args.plans.now)
      c.loop-plan.copies.items c.loop-plan.first c.loop-plan.plan-index c.loop-plan.invariant.told
      c.add_copies.new.copies.items c.plan-item.result c.plan_events.result c.loop-plan-test.true
      c.plan-item.is c.plan_events.ensures.count c.in_ok-add_copies.ensures;
  ids = total_left c.args.plans.now c.loop-plan.plan-index c.loop-plan.first c.plan_events.result
      c.plan-item.result (1 + event_total c.args.plans.now) c.loop-plan-test.true c.plan-item.is
      c.plan_events.ensures.count c.loop-plan.invariant.ids;
}

pub returns : goal.returns
returns c =
    all_moved copies_by plan_copies plan_size copies_more copies_none c.args.plans.now
    (copies_by 1 c.args.plans.now)
    c.loop-plan.copies.items c.loop-plan.first c.loop-plan.plan-index c.loop-plan.invariant.told
    c.loop-plan-test.false
