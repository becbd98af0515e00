use Rattle.plan_num.proofs.Common.{◌≡◌, ap, subst, ◌∙◌}
use Rattle.tables.proofs.Common.{UnlessFault}
use Rattle.roll_out.specs.Plans.{trips_by}
use Rattle.roll_out.specs.RolloutStage.{long_lists, made_of}
use Rattle.roll_out.proofs.Rolled.{events_refused, small_day, trips_refused}
use Rattle.roll_out.proofs.stage.rolled_out.Goals as goal

pub returns-then-trip_count-gt-MOST_TRIPS : goal.returns-then-trip_count-gt-MOST_TRIPS
returns-then-trip_count-gt-MOST_TRIPS c =
    rw c.too_many.ensures (trips_refused c.args.network.now c.args.plans.now c.requires
    c.trip_count-trip_count.result c.trip_count-trip_count.ensures
    c.if-trip_count-gt-MOST_TRIPS.true)

pub returns-then-event_count-gt-MOST_EVENTS : goal.returns-then-event_count-gt-MOST_EVENTS
returns-then-event_count-gt-MOST_EVENTS c =
    rw c.too_many-then-event_count-gt-MOST_EVENTS.ensures
    (events_refused c.args.network.now c.args.plans.now c.requires
    c.trip_count-trip_count.result c.event_count-event_count.result c.trip_count-trip_count.ensures
    c.if-trip_count-gt-MOST_TRIPS.false c.event_count-event_count.ensures
    c.if-event_count-gt-MOST_EVENTS.true)

pub made_of_day-requires : goal.made_of_day-requires
made_of_day-requires c =
    small_day c.args.network.now c.args.plans.now c.requires c.period.ensures.sound
    c.trip_count-trip_count.result c.event_count-event_count.result c.trip_count-trip_count.ensures
    c.if-trip_count-gt-MOST_TRIPS.false c.event_count-event_count.ensures
    c.if-event_count-gt-MOST_EVENTS.false c.deref.result.now c.deref-2.result.now
    (c.deref.ensures.value ∙ c.in_ok-trips.ensures
    ∙ ap (λ p. trips_by p 1 c.args.plans.now) c.period.ensures.period)
    (c.deref-2.ensures.value ∙ c.in_ok-copies.ensures)

pub returns : goal.returns
returns c =
    subst (λ trips. UnlessFault (long_lists c.args.network.now trips)
    (λ made. made ≡ made_of c.args.network.now trips) c.made_of_day.result)
    (c.deref.ensures.value ∙ c.in_ok-trips.ensures
    ∙ ap (λ p. trips_by p 1 c.args.plans.now) c.period.ensures.period) c.made_of_day.ensures
