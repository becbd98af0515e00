-- The events and activities that are made, read again, are right.
use Rattle.plan_num.proofs.Common.{◌≡◌, ℕ, ◌≤◌, All, Contains, unsigned_abs, List, [], length, map}
use Rattle.plan_num.proofs.Common.{refl, ap, subst, sym, arith, Ok, Err, Result, IfOk}
use Rattle.plan_num.proofs.Common.{range_with_len, length-map, All-weaker}
use Rattle.tables.specs.declared.counted.Counted.TheVariants as counted
use Rattle.giv_files.specs.declared.made.Made.{Made}
use Rattle.giv_files.proofs.Common.{BundleParts, Fits, input_text, StageGives, made_unless}
use Rattle.giv_files.proofs.Common.{none_unless}
use Rattle.tables.specs.declared.refusal.StageFault.{StageFault}
use Rattle.tables.proofs.Common.{events_p_columns, activities_p_columns, input_faults, records_of}
use Rattle.tables.proofs.Common.{row_limit, ReadsBack, plain_header, limits_sound, none_first}
use Rattle.tables.proofs.Common.{none_after, front_none, back_none, ReadsAs, rows_by, file_text}
use Rattle.tables.proofs.Common.{columns_written}
use Rattle.giv_files.specs.declared.stage.Stage.TheVariants as stage
use Rattle.event_tables.specs.declared.periodic_event.PeriodicEvent.{PeriodicEvent}
use Rattle.event_tables.proofs.Common.{periodic_event, periodic_activity, periodic_event_cells}
use Rattle.event_tables.proofs.Common.{periodic_activity_cells, periodic_event_header}
use Rattle.event_tables.proofs.Common.{periodic_activity_header, periodic_event_input}
use Rattle.event_tables.proofs.Common.{periodic_activity_input, periodic_event_ids}
use Rattle.event_tables.proofs.Common.{IsPeriodicActivity, KeepRunRules, periodic_event_same}
use Rattle.event_tables.proofs.Common.{periodic_activity_same, file_back, text_as}
use Rattle.event_activity.specs.declared.run_event.RunEvent.{RunEvent}
use Rattle.event_activity.specs.EanStage.{network_in, lines_in, events_in, activities_in, ean_faults, ean_stage, rows_of, too_many}
use Rattle.event_activity.specs.Fitting.{IsNumbered}
use Rattle.event_activity.specs.EventsOfRuns.{IsEventOf}
use Rattle.event_activity.specs.RightEan.{activities_of, EanIsAccepted, IsPeriodicNetwork, EanIsRight}
use Rattle.event_activity.specs.Runs.{AreServed}
use Rattle.event_activity.proofs.DrivenEvents.{events_numbered}
use Rattle.event_activity.proofs.EanAccepted.{events_accepted, activities_accepted}
use Rattle.event_activity.proofs.EanCells.{events_in_columns, activities_in_columns}
use Rattle.event_activity.proofs.KeepsRules.{rules_kept, drive_over}
use Rattle.event_activity.proofs.MadeActivities.{IsNumberedOne, activities_numbered}
use Rattle.event_activity.proofs.PlainActivities.{activities_are}
use Rattle.event_activity.proofs.PlainEvents.{events_are, stop_there}
use Rattle.event_activity.proofs.ReadAgain.{events_placed, activities_placed}
use Rattle.event_activity.proofs.Served.{served}
use Rattle.event_activity.proofs.Timely.{bundle_timely}
use Rattle.ptn_network.specs.Networks.{network_faults}

module _ (bundle : BundleParts) (own : bundle.stage ≡ stage.Ean) (fits : Fits bundle)
    (none : ean_faults bundle ≡ [])
    (short : too_many (events_in bundle) (activities_in bundle) ≡ []) where
  abbrev rows : List PeriodicEvent
  rows = rows_of (events_in bundle)

  abbrev events_text : List ℕ
  events_text = file_text periodic_event_header events_p_columns periodic_event_cells rows

  abbrev activities_text : List ℕ
  activities_text = file_text periodic_activity_header activities_p_columns
      periodic_activity_cells (activities_in bundle)

  few_events : length (events_in bundle) ≤ 4000
  few_events = (limits_sound (row_limit counted.PeriodicEvents 4000) [] (events_in bundle)
      (front_none _ _ short)).0

  few_activities : length (activities_in bundle) ≤ 200000
  few_activities = grind arith

  lines_served : AreServed (network_in bundle.inputs) (lines_in bundle)
  lines_served = served (input_text bundle 0) (input_text bundle 1) (input_text bundle 2)
      (network_in bundle.inputs) (lines_in bundle) (front_none _ _ none) refl
      (back_none (network_faults (input_text bundle 0) (input_text bundle 1)) _ none) refl

  numbered : All (IsNumbered (length (events_in bundle))) (events_in bundle)
  numbered = events_numbered (network_in bundle.inputs) (lines_in bundle) lines_served

  ones : All (IsNumberedOne (length (events_in bundle)) (length (activities_in bundle)))
      (activities_in bundle)
  ones = activities_numbered bundle.settings (bundle_timely bundle own fits) (events_in bundle)
      (length (events_in bundle)) numbered

  events_read : ReadsBack events_p_columns (rows_by periodic_event_cells rows) events_text
  events_read = file_back events_p_columns periodic_event periodic_event_cells rows
      periodic_event_header (omega arith) (columns_written events_p_columns refl)
      (refl, plain_header periodic_event_header refl)
      (events_in_columns (length (events_in bundle)) (events_in bundle) few_events numbered)

  activities_read : ReadsBack activities_p_columns
      (rows_by periodic_activity_cells (activities_in bundle)) activities_text
  activities_read = file_back activities_p_columns periodic_activity periodic_activity_cells
      (activities_in bundle) periodic_activity_header (omega arith)
      (columns_written activities_p_columns refl) (refl, plain_header periodic_activity_header refl)
      (activities_in_columns (length (events_in bundle)) (length (activities_in bundle))
      (activities_in bundle) few_events few_activities ones)

  events_again : ReadsAs events_p_columns periodic_event rows events_text
  events_again = text_as events_p_columns periodic_event periodic_event_cells rows
      periodic_event_same events_text events_read

  activities_again : ReadsAs activities_p_columns periodic_activity (activities_in bundle)
      activities_text
  activities_again = text_as activities_p_columns periodic_activity periodic_activity_cells
      (activities_in bundle) periodic_activity_same activities_text activities_read

  same_size : length rows ≡ length (events_in bundle)
  same_size = length-map (events_in bundle) (λ (event : RunEvent). event.row)

  ids_are : periodic_event_ids (records_of periodic_event_input events_text)
      ≡ range_with_len 1 (length (events_in bundle))
  ids_are = grind (arith, events_again, events_placed, same_size)

  -- the files that are made are accepted
  ean_accepted : EanIsAccepted events_text activities_text
  ean_accepted = record {
    events_fine = events_accepted rows events_text
        (events_placed (network_in bundle.inputs) (lines_in bundle))
        (omega (arith, same_size, few_events)) events_read;
    activities_fine = subst
        (λ ids. input_faults (periodic_activity_input ids) activities_text ≡ []) (sym ids_are)
        (activities_accepted (length (events_in bundle)) (activities_in bundle) activities_text
        (activities_placed bundle.settings (events_in bundle)) few_activities
        (All-weaker (IsNumberedOne (length (events_in bundle)) (length (activities_in bundle)))
        (IsPeriodicActivity (length (events_in bundle))) (λ one is. is.made.sound)
        (activities_in bundle) ones) activities_read);
    runs_fine = subst (λ some. KeepRunRules some (activities_of events_text activities_text))
        (sym events_again.1) (subst (KeepRunRules rows) (sym activities_again.1)
        (rules_kept (network_in bundle.inputs) (lines_in bundle) lines_served bundle.settings));
  }

  -- the events and activities are those of a periodic network
  is_network : IsPeriodicNetwork bundle
  is_network =
      let network = network_in bundle.inputs in
      let lines = lines_in bundle in
      let are = events_are network lines in
      let between = activities_are bundle.settings (events_in bundle) in
      record {
        all_events = are;
        at_stops = All-weaker (IsEventOf network lines)
            (λ event. Contains (map unsigned_abs network.stops) event.row.stop)
            (stop_there network lines lines_served) (events_in bundle) are.sound;
        all_activities = between;
        over_edges = λ row there drives. drive_over network lines lines_served bundle.settings row
            (between.sound row there) drives;
      }

-- what the stage makes of inputs without a fault
pub ean_is_right : (bundle : BundleParts) (made : Made) → bundle.stage ≡ stage.Ean → Fits bundle
    → ean_stage bundle ≡ Ok made → EanIsRight bundle made
unfolding ean_stage
ean_is_right bundle made own fits is =
    let all = none_unless _ _ made is in
    let none = none_first (ean_faults bundle) _ all in
    let short = none_after (ean_faults bundle) _ all in
    record {
      inputs = none;
      events = events_text bundle own fits none short;
      activities = activities_text bundle own fits none short;
      both = ap (λ (made : Made). made.files) (sym (made_unless _ _ made is));
      reads_events = events_again bundle own fits none short;
      reads_activities = activities_again bundle own fits none short;
      network = is_network bundle own fits none short;
      accepted = ean_accepted bundle own fits none short;
    }
