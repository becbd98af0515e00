use Rattle.plan_num.proofs.Common.{◌≤◌, All, arith, length, refl, ap, subst, sym, slice_get, ◌∙◌}
use Rattle.tables.specs.declared.counted.Counted.TheVariants as counted
use Rattle.tables.proofs.Common.{events_p_columns, activities_p_columns, InColumns, over_limit}
use Rattle.tables.proofs.Common.{under_limit}
use Rattle.event_tables.proofs.Common.{periodic_event_cells, periodic_activity_cells}
use Rattle.event_activity.specs.Activities.{concept_activities}
use Rattle.event_activity.specs.EanStage.{ean_made}
use Rattle.event_activity.proofs.DrivenEvents.{numbered_driven}
use Rattle.event_activity.proofs.EanCells.{events_in_columns, activities_in_columns}
use Rattle.event_activity.proofs.MadeActivities.{activities_given}
use Rattle.event_activity.proofs.stage.ean_of_events.Goals as goal

pub returns-then-activity_count-gt-MOST_ACTIVITIES :
    goal.returns-then-activity_count-gt-MOST_ACTIVITIES
returns-then-activity_count-gt-MOST_ACTIVITIES c =
    rw c.too_many.ensures (ap (λ all. slice_get all 0) (over_limit counted.PeriodicActivities 200000
    (concept_activities c.args.settings.now c.args.events.now)
    c.in_ok-activity_count.activity_count c.in_ok-activity_count.ensures
    c.if-activity_count-gt-MOST_ACTIVITIES.true))

pub concept_activities-requires-clause-events : goal.concept_activities-requires-clause-events
concept_activities-requires-clause-events c =
    numbered_driven (length c.args.events.now) c.args.events.now c.requires.events

pub ean_made-requires : goal.ean_made-requires
ean_made-requires c =
    let events = c.args.events.now in
    let activities = concept_activities c.args.settings.now events in
    let short : length activities ≤ 200000 =
    omega (arith, c.in_ok-activity_count.ensures, c.if-activity_count-gt-MOST_ACTIVITIES.false) in
    record {
      events = subst (All (λ row. InColumns events_p_columns (periodic_event_cells row)))
          (sym (c.deref.ensures.value ∙ c.in_ok-rows.ensures))
          (events_in_columns (length events) events c.requires.few c.requires.events);
      activities = subst
          (All (λ row. InColumns activities_p_columns (periodic_activity_cells row)))
          (sym (c.deref-2.ensures.value ∙ c.in_ok-activities.ensures))
          (activities_in_columns (length events) (length activities) activities c.requires.few
          short (activities_given c.args.settings.now
          c.requires.settings events (length events) c.requires.events activities refl));
    }

pub returns : goal.returns
returns c = (
  under_limit counted.PeriodicActivities 200000
      (concept_activities c.args.settings.now c.args.events.now)
      (omega (arith, c.in_ok-activity_count.ensures, c.if-activity_count-gt-MOST_ACTIVITIES.false)),
  c.in_ok-ean_made.ensures ∙ (λ i. ean_made ((c.deref.ensures.value ∙ c.in_ok-rows.ensures) i)
      ((c.deref-2.ensures.value ∙ c.in_ok-activities.ensures) i)),
)
