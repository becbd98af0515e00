-- The timetable of a bundle, from what each of its inputs gives.
use Rattle.plan_num.proofs.Common.{◌≡◌, ℕ, List, [], subst, sym, ◌∙◌, arith}
use Rattle.tables.specs.declared.file_id.FileId.TheVariants as file
use Rattle.tables.specs.declared.refusal.StageFault.{StageFault}
use Rattle.tables.proofs.Common.{Refuses, input_faults, records_of, refused_append, front_none}
use Rattle.tables.proofs.Common.{back_none}
use Rattle.giv_files.proofs.Common.{BundleParts, input_text}
use Rattle.event_tables.specs.declared.periodic_activity.PeriodicActivity.{PeriodicActivity}
use Rattle.event_tables.specs.declared.periodic_event.PeriodicEvent.{PeriodicEvent}
use Rattle.event_tables.specs.declared.periodic_time.PeriodicTime.{PeriodicTime}
use Rattle.event_tables.proofs.Common.{periodic_activity_input, periodic_event_ids}
use Rattle.event_tables.proofs.Common.{periodic_event_input, periodic_time_input}
use Rattle.pesp_model.specs.PespTexts.{activities_of, events_of, problem_faults}
use Rattle.pesp_model.proofs.Texts.{activity_faults, refused_events}
use Rattle.roll_out.specs.RolloutStage.{file_faults, network_in, period_in, times_in}

module _ (bundle : BundleParts) (none : file_faults bundle ≡ []) where
  -- where the texts have no fault, each of them has none
  pub events_fine : input_faults periodic_event_input (input_text bundle 0) ≡ []
  unfolding problem_faults
  events_fine = front_none _ _ (front_none (problem_faults (input_text bundle 0)
      (input_text bundle 1)) _ none)

  pub activities_fine : input_faults (periodic_activity_input
      (periodic_event_ids (network_in bundle).events))
      (input_text bundle 1) ≡ []
  unfolding problem_faults
  activities_fine = grind (arith, back_none, front_none)

  pub times_fine : input_faults (times_in bundle) (input_text bundle 2) ≡ []
  times_fine = back_none (problem_faults (input_text bundle 0) (input_text bundle 1)) _ none

module _ (bundle : BundleParts) where
  -- a text of events that is refused
  pub events_refused : (fault : StageFault)
      → Refuses (input_faults periodic_event_input (input_text bundle 0)) fault
      → Refuses (file_faults bundle) fault
  events_refused fault by = grind (arith, refused_append, refused_events)

  module _ (events : List PeriodicEvent) (none : input_faults periodic_event_input
      (input_text bundle 0) ≡ [])
      (are : events ≡ records_of periodic_event_input (input_text bundle 0)) where
    same_events : events ≡ events_of (input_text bundle 0)
    unfolding events_of
    same_events = are

    -- one of activities
    pub activities_refused : (fault : StageFault)
        → Refuses (input_faults (periodic_activity_input (periodic_event_ids events))
        (input_text bundle 1)) fault
        → Refuses (file_faults bundle) fault
    activities_refused fault by =
        refused_append (problem_faults (input_text bundle 0) (input_text bundle 1)) _ fault
        (subst (λ some. Refuses some fault)
        (activity_faults (input_text bundle 0) (input_text bundle 1) events none are) by)

    module _ (fine : input_faults (periodic_activity_input (periodic_event_ids events))
        (input_text bundle 1) ≡ [])
        (period : ℕ) (is : period ≡ period_in bundle) where
      times_same : input_faults (periodic_time_input file.TimesP period
          (periodic_event_ids events)) (input_text bundle 2)
          ≡ file_faults bundle
      times_same = grind (arith, same_events, activity_faults)

      -- one of times
      pub times_refused : (fault : StageFault)
          → Refuses (input_faults (periodic_time_input file.TimesP period
          (periodic_event_ids events)) (input_text bundle 2)) fault
          → Refuses (file_faults bundle) fault
      times_refused fault by = subst (λ some. Refuses some fault) times_same by

      -- texts without a fault
      pub all_fine : input_faults (periodic_time_input file.TimesP period
          (periodic_event_ids events)) (input_text bundle 2) ≡ []
          → file_faults bundle ≡ []
      all_fine none = sym times_same ∙ none

      pub network_is : (rows : List PeriodicActivity) (times : List PeriodicTime)
          → rows ≡ records_of (periodic_activity_input (periodic_event_ids events))
          (input_text bundle 1)
          → times ≡ records_of (periodic_time_input file.TimesP period (periodic_event_ids events))
          (input_text bundle 2)
          → record { period = period; events = events; activities = rows; times = times }
          ≡ network_in bundle
      unfolding activities_of
      network_is rows times read told = grind (arith, same_events)
