-- What holds before each turn.
use Rattle.plan_num.proofs.Common.{◌≡◌, ◌+◌, ◌++◌, drop}
use Rattle.roll_out.specs.Plans.{event_total, trips_by}
use Rattle.roll_out.proofs.trip.day_trips.Given as goal

abbrev pub invariant-loop-plan : goal.invariant-loop-plan
invariant-loop-plan l = record {
  told : l.trips.items ++ trips_by l.period l.first (drop l.plan-index l.plans)
      ≡ trips_by l.period 1 l.plans;
  ids : l.first + event_total (drop l.plan-index l.plans) ≡ 1 + event_total l.plans;
}
