-- The definitions on small problems.
use Rattle.plan_num.proofs.Common.{◌≡◌, ℕ, List, [], ◌∷◌, map, refl, pos, codes, Option, Some, None}
use Rattle.plan_num.proofs.Common.{Result, Ok, Err}
use Rattle.std.specs.Fmt.{digits}
use Rattle.tables.specs.declared.file_id.FileId.TheVariants as file
use Rattle.giv_files.specs.declared.key.Key.TheVariants as key
use Rattle.giv_files.specs.declared.made.Made.{Made}
use Rattle.giv_files.proofs.Common.{BundleParts}
use Rattle.tables.specs.declared.refusal.Refusal.{Refusal}
use Rattle.tables.specs.declared.refusal.Refusal.TheVariants as refusal
use Rattle.giv_files.specs.declared.stage.Stage.TheVariants as stage
use Rattle.tables.specs.Inputs.{input_faults, row_faults}
use Rattle.tables.specs.Reading.{faults, table_of, cells_from, cell_of, errors, values, row_whys}
use Rattle.text_fields.specs.Rows.{rows, cleaned}
use Rattle.tables.specs.Writing.{cell_text, cell_texts, joined, table_text}
use Rattle.plan_num.specs.Number.{spelling_of, value_of, value_at, fixed_of, whole_of}
use Rattle.pesp.specs.declared.activity.PespActivity.{PespActivity}
use Rattle.pesp_model.specs.PespTexts.{events_of, activities_of, problem_of, problem_faults}
use Rattle.pesp.specs.Timetables.{Problem, first_broken}
use Rattle.pesp_search.specs.declared.fault.TimetableFault.{TimetableFault}
use Rattle.pesp_search.specs.declared.fault.TimetableFault.TheVariants as fault
use Rattle.pesp_search.specs.Judged.{first_broken_rule}
use Rattle.pesp.specs.Listings.{Listing, first_sets, in_turn, listing_from, listing, most_entries}
use Rattle.pesp_search.specs.SearchResults.{result_within}
use Rattle.pesp.specs.TimeSets.{round, rounds, reduced}
use Rattle.pesp_search.specs.TimetableStage.{timetable_stage, timetable_work}

abbrev goes : ℕ → ℕ → ℕ → ℕ → PespActivity
goes from to lower upper = record { from = from; to = to; lower = pos lower; upper = pos upper }

-- a drive, a wait and a sync back to the first event
abbrev three : ℕ → ℕ → Problem
three lower upper =
    record { period = 10; events = 3; activities = goes 0 1 lower upper ∷ goes 1 2 2 2 ∷ goes 2 0 4 4 ∷ [] }

rounds_of_two :
    -- one round knows of the next events alone
    (round (three 3 5) (first_sets (three 3 5)) ≡ (0 ∷ []) ∷ (3 ∷ 4 ∷ 5 ∷ []) ∷ (6 ∷ []) ∷ [])
    -- two rounds, and a last one that removes nothing
    × (reduced (three 3 5) (first_sets (three 3 5)) ≡ (0 ∷ []) ∷ (4 ∷ []) ∷ (6 ∷ []) ∷ [])
    × (most_entries (three 3 5) ≡ 1111)
unfolding reduced rounds
rounds_of_two = (refl, refl, refl)

-- problems, each with what is listed
abbrev listed : List (Listing × Listing)
listed = (listing (three 3 5), record { entries = 1; found = Some (0 ∷ 4 ∷ 6 ∷ []) })
    ∷ (listing (three 3 3), record { entries = 1; found = None })
    -- a span of the period less one allows all times
    ∷ (listing (three 3 12), record { entries = 1; found = Some (0 ∷ 4 ∷ 6 ∷ []) })
    -- no event, and one event apart from all others
    ∷ (
      listing (record { period = 10; events = 0; activities = [] }),
      record { entries = 1; found = Some [] },
    )
    ∷ (
      listing (record { period = 10; events = 2; activities = [] }),
      record { entries = 2; found = Some (0 ∷ 0 ∷ []) },
    )
    -- an activity from an event to itself, which no time keeps: each time has another one as its partner
    ∷ (
      listing (record { period = 4; events = 2; activities = goes 1 1 1 1 ∷ [] }),
      record { entries = 5; found = None },
    ) ∷ []

each_is_listed : map (λ at. at.0) listed ≡ map (λ at. at.1) listed
unfolding listing listing_from in_turn reduced rounds
each_is_listed = refl

-- ---- the stage

abbrev bundle : ℕ → ℕ → List ℕ → List ℕ → BundleParts
bundle period budget events activities = record {
  stage = stage.Timetable;
  settings = record { key = key.PeriodLength; value = pos period }
      ∷ record { key = key.TimetableBudget; value = pos budget } ∷ [];
  inputs = events ∷ activities ∷ [];
}

abbrev events : List ℕ
events = codes "# events\n1; departure; 1; 1; >; 1\n2; arrival; 2; 1; >; 1\n3; departure; 2; 1; >; 1\n"

abbrev around : List ℕ
around = codes "1; drive; 1; 2; 3; 5\n2; wait; 2; 3; 2; 2\n3; sync; 3; 1; 4; 4\n"

-- what is made where the table is a text
abbrev made : List ℕ → List ℕ → Made
made table report = record { files = record { file = file.TimesP; text = table } ∷ []; report = report }

timed_work : timetable_work (bundle 10 1 events around) ≡ 2
unfolding timetable_work listing listing_from in_turn reduced rounds problem_of problem_faults events_of activities_of input_faults row_faults faults table_of cells_from cell_of values errors row_whys rows cleaned spelling_of value_of value_at fixed_of whole_of
timed_work = refl

-- ---- two lines and their changes, in both directions

abbrev twelve : List ℕ
twelve =
    codes
    "# e\n1; departure; 1; 1; >; 1\n2; arrival; 2; 1; >; 1\n3; departure; 2; 1; >; 1\n4; arrival; 3; 1; >; 1\n5; departure; 3; 1; <; 1\n6; arrival; 2; 1; <; 1\n7; departure; 2; 1; <; 1\n8; arrival; 1; 1; <; 1\n9; departure; 1; 2; >; 1\n10; arrival; 2; 2; >; 1\n11; departure; 2; 2; <; 1\n12; arrival; 1; 2; <; 1\n"

abbrev fourteen : List ℕ
fourteen =
    codes
    "# a\n1; drive; 1; 2; 4; 5\n2; wait; 2; 3; 1; 3\n3; drive; 3; 4; 6; 6\n4; drive; 5; 6; 6; 6\n5; wait; 6; 7; 1; 3\n6; drive; 7; 8; 4; 5\n7; drive; 9; 10; 4; 5\n8; drive; 11; 12; 4; 5\n9; change; 2; 11; 2; 62\n10; change; 6; 11; 2; 62\n11; change; 8; 9; 2; 62\n12; change; 10; 3; 2; 62\n13; change; 10; 7; 2; 62\n14; change; 12; 1; 2; 62\n"

abbrev twelve_times : List ℕ
twelve_times = 0 ∷ 4 ∷ 5 ∷ 11 ∷ 0 ∷ 6 ∷ 7 ∷ 11 ∷ 0 ∷ 4 ∷ 0 ∷ 4 ∷ []

-- bundles, each with what the stage gives
abbrev staged : List (Result Made Refusal × Result Made Refusal)
staged = (
  timetable_stage (bundle 10 1 events around),
  Ok (made (codes "# event-id; time\n1; 0\n2; 4\n3; 6\n") (codes "timetable: 3 events, 1 entries")),
) ∷ (
  timetable_stage (bundle 10 100000 events
      (codes "1; drive; 1; 2; 3; 3\n2; wait; 2; 3; 2; 2\n3; sync; 3; 1; 4; 4\n")),
  Err refusal.NoSolution,
) ∷ (timetable_stage (bundle 20 9 twelve fourteen), Err (refusal.Spent 9)) ∷ []

each_stage_gives : map (λ at. at.0) staged ≡ map (λ at. at.1) staged
unfolding digits timetable_stage result_within listing listing_from in_turn reduced rounds problem_of problem_faults events_of activities_of input_faults row_faults faults table_of cells_from cell_of values errors row_whys rows cleaned spelling_of value_of value_at fixed_of whole_of cell_text cell_texts joined table_text
each_stage_gives = refl

-- two vehicles that leave a stop over one edge keep three minutes apart
abbrev sixteen : List ℕ
sixteen =
    codes "# a\n1; drive; 1; 2; 4; 5\n2; wait; 2; 3; 1; 3\n3; drive; 3; 4; 6; 6\n4; drive; 5; 6; 6; 6\n5; wait; 6; 7; 1; 3\n6; drive; 7; 8; 4; 5\n7; drive; 9; 10; 4; 5\n8; drive; 11; 12; 4; 5\n9; change; 2; 11; 2; 62\n10; change; 6; 11; 2; 62\n11; change; 8; 9; 2; 62\n12; change; 10; 3; 2; 62\n13; change; 10; 7; 2; 62\n14; change; 12; 1; 2; 62\n15; sync; 1; 9; 3; 17\n16; sync; 7; 11; 3; 17\n"

texts_listed : listing (problem_of 20 twelve fourteen) ∷ listing (problem_of 20 twelve sixteen) ∷ []
    ≡ record { entries = 10; found = Some twelve_times }
    ∷ record { entries = 10; found = Some (0 ∷ 4 ∷ 5 ∷ 11 ∷ 0 ∷ 6 ∷ 7 ∷ 11 ∷ 3 ∷ 7 ∷ 0 ∷ 4 ∷ []) } ∷ []
unfolding listing listing_from in_turn reduced rounds problem_of events_of activities_of table_of cells_from cell_of values rows cleaned spelling_of value_of value_at fixed_of whole_of
texts_listed = refl

-- ---- verdicts

-- texts of times, each with the rule that it breaks
abbrev judged : List (Option TimetableFault × Option TimetableFault)
judged = (
  first_broken_rule (problem_of 20 twelve fourteen)
      (codes "# t\n1; 0\n2; 4\n3; 5\n4; 11\n5; 0\n6; 6\n7; 7\n8; 11\n9; 0\n10; 4\n11; 0\n12; 4\n"),
  None,
) ∷ (
  first_broken_rule (problem_of 20 twelve fourteen)
      (codes "# t\n1; 0\n2; 6\n3; 5\n4; 11\n5; 0\n6; 6\n7; 7\n8; 11\n9; 0\n10; 4\n11; 0\n12; 4\n"),
  Some fault.Tension,
) ∷ (first_broken_rule (problem_of 10 events around) (codes "1; 0\n2; 14\n3; 6\n"), Some fault.Events)
    ∷ (first_broken_rule (problem_of 10 events around) (codes "1; 0\n2; 4\n"), Some fault.Events)
    ∷ (first_broken_rule (problem_of 10 events around) (codes "1; 0\n2; x\n3; 6\n"), Some fault.Row) ∷ []

each_breaks_it : map (λ at. at.0) judged ≡ map (λ at. at.1) judged
unfolding first_broken_rule first_broken faults problem_of events_of activities_of table_of cells_from cell_of values errors row_whys rows cleaned spelling_of value_of value_at fixed_of whole_of
each_breaks_it = refl
