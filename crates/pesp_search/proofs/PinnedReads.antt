-- What is made of a planner's timetable is right.
use Rattle.plan_num.proofs.Common.{All, arith, ◌≡◌, ℕ, ◌≤◌, ◌<◌, cond, List, [], ◌∷◌, length}
use Rattle.plan_num.proofs.Common.{is_some, Option, Some, None, Ok, refl, sym, ◌∙◌, subst}
use Rattle.plan_num.proofs.Common.{length-map, All-map}
use Rattle.tables.specs.declared.file_id.FileId.TheVariants as file
use Rattle.giv_files.specs.declared.made.Made.{Made}
use Rattle.giv_files.proofs.Common.{BundleParts, input_text, made_unless, none_unless}
use Rattle.tables.specs.declared.refusal.Refusal.TheVariants as refusal
use Rattle.tables.specs.declared.row_why.RowWhy.TheVariants as why
use Rattle.tables.proofs.Common.{times_p_columns, InColumns, input_faults, back_none, front_none}
use Rattle.tables.proofs.Common.{none_after, none_first}
use Rattle.event_tables.specs.declared.periodic_time.PeriodicTime.{PeriodicTime}
use Rattle.event_tables.proofs.Common.{periodic_time_cells, periodic_time_input, ArePeriodicTimes}
use Rattle.event_tables.proofs.Common.{periodic_times_sound}
use Rattle.pesp_model.specs.PespTexts.{events_of, problem_of}
use Rattle.pesp.specs.Timetables.{first_broken, IsTimetable}
use Rattle.pesp.proofs.FirstBroken.{first_is}
use Rattle.pesp_search.specs.Judged.{rows_in, times_in}
use Rattle.pesp_search.specs.PinnedTimetables.{pinned_input, pinned_timetable_faults, pinned_timetable_stage}
use Rattle.pesp_search.specs.RightTimetables.{TimetableFilesAreRight}
use Rattle.pesp_search.specs.TimetableStage.{period_in, problem_in, time_rows, timetable_faults}
use Rattle.pesp_search.proofs.TimesAccepted.{times_fit}
use Rattle.pesp_search.proofs.TimetableReads.{files_right, ids_are, problem_is}

no_tension : (broken : Option ℕ) → cond (is_some broken) (refusal.BadRow file.PinnedTimes 0 why.NotFeasible ∷ []) [] ≡ [] → broken ≡ None
no_tension None e = refl
no_tension (Some at) e = absurd (cc)

-- where the inputs have no fault, and the file of times has none by the rules of its kind
module _ (bundle : BundleParts) (short : (1 ≤ period_in bundle) × (period_in bundle ≤ 720)) (inputs : timetable_faults bundle ≡ []) (reads : input_faults (pinned_input bundle) (input_text bundle 2) ≡ []) where
  abbrev text : List ℕ
  text = input_text bundle 2

  abbrev times : List ℕ
  times = times_in text

  rows_are : ArePeriodicTimes (period_in bundle) (length (events_of (input_text bundle 0))) (rows_in text)
  rows_are = periodic_times_sound file.PinnedTimes (period_in bundle) (length (events_of (input_text bundle 0))) text
      (subst (λ ids. input_faults (periodic_time_input file.PinnedTimes (period_in bundle) ids) text ≡ [])
      (ids_are bundle short inputs) reads)

  pub times_each : length times ≡ (problem_in bundle).events
  unfolding problem_of
  times_each = length-map (rows_in text) (λ (row : PeriodicTime). row.time) ∙ rows_are.each_event

  pub times_within : All (λ time. time < period_in bundle) times
  times_within =
      All-map (λ time. time < period_in bundle) (λ (row : PeriodicTime). row.time) (rows_in text) rows_are.in_period

  pub times_few : length times ≤ 4000
  times_few = omega (arith, (problem_is bundle short inputs).few_events, times_each)

  pub times_written : All (λ row. InColumns times_p_columns (periodic_time_cells row)) (time_rows times)
  times_written = times_fit times times_few (λ k d h. omega (arith, times_within k d h, short.1))

  pub timetable : first_broken (problem_in bundle) times ≡ None → IsTimetable (problem_in bundle) times
  unfolding problem_of
  timetable none =
      first_is (problem_in bundle) times (problem_is bundle short inputs) times_each times_within None (sym none)

-- what no fault at all says of each part
no_faults : (bundle : BundleParts) → pinned_timetable_faults bundle ≡ []
    → (timetable_faults bundle ≡ []) × (input_faults (pinned_input bundle) (input_text bundle 2) ≡ [])
    × (first_broken (problem_in bundle) (times_in (input_text bundle 2)) ≡ None)
no_faults bundle none = grind (arith, back_none, front_none, none_first, no_tension, none_after)

-- the law of the stage
pub pinned_right : (bundle : BundleParts) (made : Made) → (1 ≤ period_in bundle) × (period_in bundle ≤ 720)
    → pinned_timetable_stage bundle ≡ Ok made → TimetableFilesAreRight bundle made.files
unfolding pinned_timetable_stage
pinned_right bundle made short is =
    let faults = pinned_timetable_faults bundle in grind (
      arith,
      no_faults,
      none_unless,
      made_unless,
      files_right,
      timetable,
    )
