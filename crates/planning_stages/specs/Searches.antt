-- What it means that a search ends with a solution, and without one.
use Rattle.std.specs.Prelude.{ℕ, ◌≡◌, ◌≤◌, ◌<◌, List, [], length, take, None, ⊤}
use Rattle.giv_files.specs.declared.stage.Stage.{Stage}
use Rattle.giv_files.specs.declared.stage.Stage.TheVariants as stage
use Rattle.giv_files.specs.Settings.{BundleParts}
use Rattle.line_cost_model.specs.Concepts.{IsFeasible}
use Rattle.line_search.specs.ConceptStage.{budget_of}
use Rattle.line_search.specs.GivenProblems.{problem_faults, problem_of}
use Rattle.line_concepts.specs.Listings.{best_after, listing}
use Rattle.line_search.specs.RightConcepts.{HasNone}
use Rattle.line_concepts.specs.RightSearches.{IsEnough}
use Rattle.pesp.specs.Timetables.{IsTimetable}
use Rattle.pesp.specs.Listings.{listing as times_listed, most_entries}
use Rattle.pesp_search.specs.RightTimetables.{HasNone as HasNoTimetable}
use Rattle.pesp_search.specs.TimetableStage.{budget_in, problem_in, timetable_faults}

-- The inputs of a search have no fault, and it has no solution: no line concept is feasible, or no times
-- are a timetable; and its whole listing is within the budget. No other stage searches.
abbrev pub HasNoSolution : Stage → BundleParts → Type 0
HasNoSolution stage.Concept bundle = HasNone bundle
HasNoSolution stage.Timetable bundle = HasNoTimetable bundle
HasNoSolution _ bundle = ⊥

-- The inputs of a search have no fault, and its listing is longer than the budget; of line concepts, so
-- many entries find none.
abbrev pub IsSpent : Stage → BundleParts → Type 0
IsSpent stage.Concept bundle = (problem_faults bundle ≡ [])
    × (budget_of bundle < length (listing (problem_of bundle)))
    × (best_after None (take (budget_of bundle) (listing (problem_of bundle))) ≡ None)
IsSpent stage.Timetable bundle = (timetable_faults bundle ≡ [])
    × (budget_in bundle < (times_listed (problem_in bundle)).entries)
IsSpent _ bundle = ⊥

-- A solution exists, and the budget is one that no listing exceeds. Any other stage needs none.
abbrev pub CanBeFound : Stage → BundleParts → Type 0
CanBeFound stage.Concept bundle = ((concept : List ℕ) × IsFeasible (problem_of bundle) concept)
    × IsEnough (problem_of bundle) (budget_of bundle)
CanBeFound stage.Timetable bundle = ((times : List ℕ) × IsTimetable (problem_in bundle) times)
    × (most_entries (problem_in bundle) ≤ budget_in bundle)
CanBeFound _ bundle = ⊤
