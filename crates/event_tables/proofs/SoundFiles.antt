-- What holds of the records of each file, where its text has no fault.
use Rattle.plan_num.proofs.Common.{arith, ◌≡◌, ℕ, List, [], refl, sym, subst, Result, Ok, Err, IfOk}
use Rattle.plan_num.proofs.Common.{range_with_len, or_parts, ltb-false, not-false}
use Rattle.tables.specs.declared.counted.Counted.TheVariants as counted
use Rattle.tables.specs.declared.refusal.Refusal.{Refusal}
use Rattle.tables.specs.declared.refusal.StageFault.{StageFault}
use Rattle.tables.proofs.Common.{UnlessFault, row_limit, input_faults, records_of, broken_whys}
use Rattle.tables.proofs.Common.{few_rows, rules_sound}
use Rattle.event_tables.specs.declared.periodic_activity.PeriodicActivity.{PeriodicActivity}
use Rattle.event_tables.specs.declared.expanded_activity.ExpandedActivity.{ExpandedActivity}
use Rattle.event_tables.specs.declared.expanded_event.ExpandedEvent.{ExpandedEvent}
use Rattle.event_tables.specs.ExpandedFiles.{expanded_event_input, expanded_activity_input, expanded_activity_rules}
use Rattle.event_tables.specs.ExpandedFiles.{AreExpandedEvents, AreExpandedActivities, IsExpandedActivity}
use Rattle.event_tables.specs.PeriodicFiles.{periodic_event_input, periodic_activity_input, periodic_activity_rules}
use Rattle.event_tables.specs.PeriodicFiles.{ArePeriodicEvents, ArePeriodicActivities, IsPeriodicActivity}
use Rattle.event_tables.specs.Cells.{periodic_event_cells, periodic_activity_cells, expanded_event_cells}
use Rattle.event_tables.specs.Cells.{expanded_activity_cells}
use Rattle.event_tables.specs.Places.{AreNumbered}
use Rattle.event_tables.proofs.CellsBack.{periodic_event_back, periodic_activity_back, expanded_event_back}
use Rattle.event_tables.proofs.CellsBack.{expanded_activity_back}
use Rattle.event_tables.proofs.Fitting.{fitting_records, sound_records}
use Rattle.event_tables.proofs.Numbering.{numbered_rows, is_place}

-- what holds of the records of a text without a fault holds of what was read
pub sound_read : {X A : Type 0} (view : A
    → List X) (faults : List Refusal) (told : List X) (P : List X
    → Type 0) (read : Result A StageFault)
    → UnlessFault faults (λ rows. view rows ≡ told) read → (faults ≡ [] → P told) → IfOk read
    (λ rows. P (view rows))
sound_read view faults told P (Ok rows) h sound = subst P (sym h.1) (sound h.0)
sound_read view faults told P (Err fault) h sound = tt

pub periodic_events_sound : (text : List ℕ) → input_faults periodic_event_input text ≡ []
    → ArePeriodicEvents (records_of periodic_event_input text)
periodic_events_sound text none = record {
  numbered = numbered_rows periodic_event_input (λ event. event.id) [] text refl none;
  few = few_rows periodic_event_input text (row_limit counted.PeriodicEvents 4000) [] refl none;
  fit = fitting_records periodic_event_input text none periodic_event_cells periodic_event_back;
}

pub expanded_events_sound : (text : List ℕ) → input_faults expanded_event_input text ≡ []
    → AreExpandedEvents (records_of expanded_event_input text)
expanded_events_sound text none = record {
  numbered = numbered_rows expanded_event_input (λ event. event.id) [] text refl none;
  few = few_rows expanded_event_input text (row_limit counted.ExpandedEvents 100000) [] refl none;
  fit = fitting_records expanded_event_input text none expanded_event_cells expanded_event_back;
}

module _ (count : ℕ) (text : List ℕ) (none : input_faults (periodic_activity_input (range_with_len 1 count)) text
    ≡ []) where
  activity_sound : (some : List PeriodicActivity) (row : PeriodicActivity)
      → broken_whys (periodic_activity_rules (range_with_len 1 count)) some row ≡ []
      → IsPeriodicActivity count row
  activity_sound some row kept = grind (arith, rules_sound, or_parts, is_place, ltb-false)

  pub periodic_activities_sound : ArePeriodicActivities count
      (records_of (periodic_activity_input (range_with_len 1 count)) text)
  periodic_activities_sound =
      let input = periodic_activity_input (range_with_len 1 count) in
      record {
        numbered = numbered_rows input (λ row. row.id) _ text refl none;
        few = few_rows input text (row_limit counted.PeriodicActivities 200000) [] refl none;
        each = sound_records input text none (IsPeriodicActivity count) activity_sound;
        fit = fitting_records input text none periodic_activity_cells periodic_activity_back;
      }

module _ (events : List ExpandedEvent) (text : List ℕ) (are : AreNumbered
    (λ event. event.id) events) (none : input_faults (expanded_activity_input events) text
    ≡ []) where
  expanded_sound : (some : List ExpandedActivity) (row : ExpandedActivity)
      → broken_whys (expanded_activity_rules events) some row ≡ [] → IsExpandedActivity events row
  expanded_sound some row kept =
      grind (arith, rules_sound, or_parts, is_place, ltb-false, not-false)

  pub expanded_activities_sound : AreExpandedActivities events
      (records_of (expanded_activity_input events) text)
  expanded_activities_sound =
      let input = expanded_activity_input events in
      record {
        numbered = numbered_rows input (λ row. row.id) _ text refl none;
        few = few_rows input text (row_limit counted.ExpandedActivities 500000) [] refl none;
        each = sound_records input text none (IsExpandedActivity events) expanded_sound;
        fit = fitting_records input text none expanded_activity_cells expanded_activity_back;
      }
