-- The timetable that is made is right over what the stage was given.
use Rattle.plan_num.proofs.Common.{◌≡◌, ℕ, ◌<◌, ◌≤◌, nat_lt, List, [], ◌∷◌, length, map, All}
use Rattle.plan_num.proofs.Common.{Option, Some, None, Ok, refl, sym, subst, arith, range_with_len}
use Rattle.tables.specs.declared.file_id.FileId.TheVariants as file
use Rattle.giv_files.specs.declared.key.Key.TheVariants as key
use Rattle.giv_files.specs.declared.made.Made.{Made}
use Rattle.giv_files.proofs.Common.{BundleParts, Fits, SettingsFit, input_text, amount_within}
use Rattle.giv_files.proofs.Common.{made_after}
use Rattle.giv_files.specs.declared.stage.Stage.TheVariants as stage
use Rattle.tables.proofs.Common.{input_faults, front_none, back_none}
use Rattle.event_tables.specs.declared.periodic_event.PeriodicEvent.{PeriodicEvent}
use Rattle.event_tables.proofs.Common.{periodic_activity_input, periodic_event_ids}
use Rattle.event_tables.proofs.Common.{periodic_event_input, periodic_time_input}
use Rattle.event_tables.proofs.Common.{periodic_activities_sound, periodic_events_sound}
use Rattle.pesp_model.specs.PespTexts.{activities_of, activity_of, events_of, problem_faults, problem_of}
use Rattle.pesp.specs.Timetables.{IsProblem, IsTimetable}
use Rattle.pesp_model.proofs.Texts.{problem_sound}
use Rattle.pesp.specs.Listings.{Tells, listing}
use Rattle.pesp_search.specs.SearchResults.{result_within, whole_result}
use Rattle.pesp_search.specs.RightTimetables.{TimetableFilesAreRight, TimetableIsRight, event_ids}
use Rattle.pesp_search.specs.TimetableStage.{budget_in, period_in, problem_in, search_made}
use Rattle.pesp_search.specs.TimetableStage.{timetable_faults, timetable_stage, times_made, times_text}
use Rattle.pesp_search.proofs.JudgedTimes.{none_broken_by}
use Rattle.pesp.proofs.ListingRight.{listing_right}
use Rattle.pesp_search.proofs.TimesAccepted.{times_accepted, times_fit, times_read}

-- where the period is in its range, whatever the stage
module _ (bundle : BundleParts) (short : (1 ≤ period_in bundle) × (period_in bundle ≤ 720)) (none : timetable_faults bundle ≡ []) where
  abbrev events : List PeriodicEvent
  events = events_of (input_text bundle 0)

  events_none : input_faults periodic_event_input (input_text bundle 0) ≡ []
  unfolding problem_faults
  events_none = front_none _ _ none

  activities_none : input_faults (periodic_activity_input (periodic_event_ids events)) (input_text bundle 1) ≡ []
  unfolding problem_faults
  activities_none = back_none (input_faults periodic_event_input (input_text bundle 0)) _ none

  pub ids_are : event_ids bundle ≡ range_with_len 1 (length events)
  unfolding events_of
  ids_are = (periodic_events_sound (input_text bundle 0) events_none).numbered

  pub problem_is : IsProblem (problem_in bundle)
  unfolding problem_of activities_of events_of
  problem_is =
      let are = periodic_events_sound (input_text bundle 0) events_none in
      let fine = subst (λ ids. input_faults (periodic_activity_input ids) (input_text bundle 1) ≡ []) ids_are activities_none in
      let rows = periodic_activities_sound (length events) (input_text bundle 1) fine in
      problem_sound (length events) (activities_of events (input_text bundle 1)) rows (period_in bundle)
      short.0 short.1 (length events) refl are.few
      (map activity_of (activities_of events (input_text bundle 1))) refl

  -- times that are a timetable of the problem
  module _ (times : List ℕ) (is : IsTimetable (problem_in bundle) times) where
    few : length times ≤ 4000
    few = omega (arith, problem_is.few_events, is.each)

    below : All (λ time. time < 720) times
    below k d h = omega (arith, is.within k d h, problem_is.few)

    pub files_right : TimetableFilesAreRight bundle (record { file = file.TimesP; text = times_text times } ∷ [])
    unfolding problem_of
    files_right =
        let fit = times_fit times few below in
        record {
          inputs = none;
          times = times;
          text = times_text times;
          one = refl;
          reads = times_read times fit;
          timetable = is;
          passes = none_broken_by (problem_in bundle) problem_is (times_text times) times (times_read times fit) is;
          accepted = subst (λ ids. input_faults (periodic_time_input file.TimesP (period_in bundle) ids) (times_text times) ≡ [])
              (sym ids_are)
              (times_accepted file.TimesP (period_in bundle) (length events) times is.each is.within fit);
        }

module _ (bundle : BundleParts) (own : bundle.stage ≡ stage.Timetable) (fits : Fits bundle) where
  pub period_within : (1 ≤ period_in bundle) × (period_in bundle ≤ 720)
  period_within =
      amount_within stage.Timetable bundle.settings key.PeriodLength _ _
      (subst (λ of. SettingsFit of bundle.settings) own fits.settings) refl refl refl

  module _ (none : timetable_faults bundle ≡ []) where
    pub is_problem : IsProblem (problem_in bundle)
    is_problem = problem_is bundle period_within none

    made_right : (times : List ℕ) → IsTimetable (problem_in bundle) times → (entries : ℕ)
        → TimetableFilesAreRight bundle (times_made (record { times = times; entries = entries })).files
    made_right times is entries = files_right bundle period_within none times is

    by_found : (entries : ℕ) (found : Option (List ℕ)) → Tells (problem_in bundle) found → (made : Made)
        → search_made (whole_result entries found) ≡ Ok made → TimetableIsRight bundle made
    by_found entries None tells made is = absurd (cc)
    by_found entries (Some times) tells made is =
        let same : times_made (record { times = times; entries = entries }) ≡ made = cc in
        subst (TimetableIsRight bundle) same (made_right times tells entries)

    result_right : (made : Made)
        → search_made (result_within (budget_in bundle) (listing (problem_in bundle))) ≡ Ok made
        → TimetableIsRight bundle made
    unfolding result_within
    result_right made is =
        let all = listing (problem_in bundle) in grind (
          arith,
          nat_lt,
          by_found,
          listing_right,
          is_problem,
        )

-- what the stage makes is right
pub timetable_is_right : (bundle : BundleParts) (made : Made) → bundle.stage ≡ stage.Timetable
    → Fits bundle → timetable_stage bundle ≡ Ok made → TimetableIsRight bundle made
unfolding timetable_stage
timetable_is_right bundle made own fits is = grind (arith, made_after, result_right)
