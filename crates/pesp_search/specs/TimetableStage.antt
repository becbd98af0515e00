-- The stage that makes a timetable.
use Rattle.std.specs.Prelude.{ℕ, List, [], ◌∷◌, ◌++◌, length, map, codes, decimal, Result, Ok}
use Rattle.std.specs.Prelude.{Err}
use Rattle.std.specs.List.{enumerate_from}
use Rattle.tables.specs.declared.file_id.FileId.TheVariants as file
use Rattle.giv_files.specs.declared.key.Key.TheVariants as key
use Rattle.giv_files.specs.declared.made.Made.{Made}
use Rattle.tables.specs.declared.refusal.Refusal.{Refusal}
use Rattle.tables.specs.Columns.{times_p_columns}
use Rattle.giv_files.specs.Settings.{BundleParts, amount}
use Rattle.giv_files.specs.StageCalls.{input_text}
pub use Rattle.giv_files.specs.StageCalls.{after_faults, work_after}
use Rattle.event_tables.specs.declared.periodic_time.PeriodicTime.{PeriodicTime}
use Rattle.event_tables.specs.Cells.{periodic_time_cells}
use Rattle.event_tables.specs.Headers.{periodic_time_header}
use Rattle.tables.specs.RowsOfTables.{file_text}
use Rattle.pesp_model.specs.PespTexts.{problem_of, problem_faults}
use Rattle.pesp.specs.Timetables.{Problem}
use Rattle.pesp.specs.Listings.{listing, entries_listed}
use Rattle.pesp_search.specs.SearchResults.{TimesFound, result_within}

-- the period of a bundle, and how many entries may be listed
abbrev pub period_in : BundleParts → ℕ
period_in bundle = amount bundle.settings key.PeriodLength

abbrev pub budget_in : BundleParts → ℕ
budget_in bundle = amount bundle.settings key.TimetableBudget

-- the problem of a bundle, whose inputs are the texts of events and of activities
abbrev pub problem_in : BundleParts → Problem
problem_in bundle = problem_of (period_in bundle) (input_text bundle 0) (input_text bundle 1)

-- every fault of the texts of a bundle, in the order of its inputs
abbrev pub timetable_faults : BundleParts → List Refusal
timetable_faults bundle = problem_faults (input_text bundle 0) (input_text bundle 1)

-- the rows of times: the events are numbered from 1
abbrev pub time_rows : List ℕ → List PeriodicTime
time_rows times = map (λ at. record { event = at.0; time = at.1 }) (enumerate_from 1 times)

-- the text of times
abbrev pub times_text : List ℕ → List ℕ
times_text times =
    file_text periodic_time_header times_p_columns periodic_time_cells (time_rows times)

-- what is made of times that were found: their table, and the line of the report
abbrev pub times_made : TimesFound → Made
times_made found = record {
  files = record { file = file.TimesP; text = times_text found.times } ∷ [];
  report = codes "timetable: " ++ decimal (length found.times) ++ codes " events, "
      ++ decimal found.entries ++ codes " entries";
}

-- what is made of what a search found, or why it found nothing
abbrev pub search_made : Result TimesFound Refusal → Result Made Refusal
search_made (Err why) = Err why
search_made (Ok found) = Ok (times_made found)

-- the stage: from settings and input texts to what is made, or the first fault, or why the search
-- found no timetable
unfoldable pub timetable_stage : BundleParts → Result Made Refusal
timetable_stage bundle =
    after_faults (timetable_faults bundle)
    (search_made (result_within (budget_in bundle) (listing (problem_in bundle))))

-- how many steps it takes: one, and where the inputs have no fault one for each entry that is
-- listed
unfoldable pub timetable_work : BundleParts → ℕ
timetable_work bundle =
    work_after (timetable_faults bundle)
    (entries_listed (budget_in bundle) (listing (problem_in bundle)))
