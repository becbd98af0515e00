use Rattle.plan_num.proofs.Common.{◌+◌}
use Rattle.roll_out.specs.Plans.{plan_trips, trips_by, event_total}
use Rattle.roll_out.proofs.Growing.{all_moved, moved, plan_size, total_left, trips_more, trips_none}
use Rattle.roll_out.proofs.trip.day_trips.Goals as goal

pub loop-plan-preserved : goal.loop-plan-preserved
loop-plan-preserved c = record {
  told = moved (trips_by c.args.period) (plan_trips c.args.period) plan_size
      (trips_more c.args.period) (trips_none c.args.period) c.args.plans.now
      (trips_by c.args.period 1 c.args.plans.now)
      c.loop-plan.trips.items c.loop-plan.first c.loop-plan.plan-index c.loop-plan.invariant.told
      c.add_trips.new.trips.items c.plan-item.result c.plan_events.result c.loop-plan-test.true
      c.plan-item.is c.plan_events.ensures.count c.in_ok-add_trips.ensures;
  ids = total_left c.args.plans.now c.loop-plan.plan-index c.loop-plan.first c.plan_events.result
      c.plan-item.result (1 + event_total c.args.plans.now) c.loop-plan-test.true c.plan-item.is
      c.plan_events.ensures.count c.loop-plan.invariant.ids;
}

pub returns : goal.returns
returns c =
    all_moved (trips_by c.args.period) (plan_trips c.args.period) plan_size
    (trips_more c.args.period) (trips_none c.args.period) c.args.plans.now
    (trips_by c.args.period 1 c.args.plans.now)
    c.loop-plan.trips.items c.loop-plan.first c.loop-plan.plan-index c.loop-plan.invariant.told
    c.loop-plan-test.false
