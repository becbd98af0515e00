use Rattle.plan_num.proofs.Common.{All, arith, subst, sym, ◌∙◌}
use Rattle.tables.proofs.Common.{trips_columns, InColumns}
use Rattle.event_tables.proofs.Common.{trip_cells}
use Rattle.roll_out.specs.RolloutStage.{rollout_made}
use Rattle.roll_out.proofs.DayCells.{ActivityFits, EventFits, activities_fit, events_fit, trips_fit}
use Rattle.roll_out.proofs.RolloutCalls.{activities_long, none_long}
use Rattle.roll_out.proofs.SoundPlans.{between_all}
use Rattle.roll_out.proofs.stage.made_of_day.Goals as goal

pub returns-then-activity_count-gt-MOST_ACTIVITIES :
    goal.returns-then-activity_count-gt-MOST_ACTIVITIES
returns-then-activity_count-gt-MOST_ACTIVITIES c =
    rw c.too_many.ensures (activities_long c.args.network.now c.args.trips.now
    c.requires.few_trips c.requires.few_events c.activity_count-activity_count.result
    c.activity_count-activity_count.ensures c.if-activity_count-gt-MOST_ACTIVITIES.true)

pub rollout_made-requires : goal.rollout_made-requires
rollout_made-requires c =
    let network = c.args.network.now in
    let trips = c.args.trips.now in
    record {
      events = subst (All EventFits) (sym (c.deref.ensures.value ∙ c.in_ok-events.ensures))
          (events_fit trips c.requires.trips_are);
      activities = subst (All ActivityFits)
          (sym (c.deref-2.ensures.value ∙ c.in_ok-activities.ensures))
          (activities_fit trips c.requires.trips_are network
          (between_all network c.requires.timed)
          (omega (arith, c.activity_count-activity_count.ensures)));
      trips = subst (All (λ row. InColumns trips_columns (trip_cells row)))
          (sym (c.deref-3.ensures.value ∙ c.in_ok-rows.ensures))
          (trips_fit trips c.requires.trips_are);
    }

pub returns : goal.returns
returns c = (
  none_long c.args.network.now c.args.trips.now c.requires.few_trips c.requires.few_events
      (omega (arith, c.activity_count-activity_count.ensures)),
  c.in_ok-rollout_made.ensures
      ∙ (λ i. rollout_made ((c.deref.ensures.value ∙ c.in_ok-events.ensures) i)
      ((c.deref-2.ensures.value ∙ c.in_ok-activities.ensures) i)
      ((c.deref-3.ensures.value ∙ c.in_ok-rows.ensures) i)),
)
