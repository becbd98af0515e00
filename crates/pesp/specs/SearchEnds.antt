-- How a search within a budget of entries ends.
use Rattle.std.specs.Prelude.{◌≡◌, ℕ, ◌+◌, ◌<◌, ◌≤◌, List, Some, None, Result, Ok, Err}
use Rattle.plan_num.specs.declared.memory.NoMemory.{NoMemory}
use Rattle.pesp.specs.declared.search.SearchEnd.{SearchEnd}
use Rattle.pesp.specs.declared.search.SearchEnd.TheVariants as ends
use Rattle.pesp.specs.Listings.{Listing, most_entries}
use Rattle.pesp.specs.Timetables.{Problem, IsTimetable}

-- a search ends as a listing does: it tells what the listing finds and how many entries this has,
-- or that it finds nothing, or that it has more entries than the budget
abbrev pub EndsAs : ℕ → Listing → SearchEnd → Type 0
EndsAs budget listed (ends.Found found) = (listed.entries ≤ budget)
    × (listed.found ≡ Some found.times.items)
    × (listed.entries ≡ found.entries)
EndsAs budget listed ends.NoSolution = (listed.entries ≤ budget) × (listed.found ≡ None)
EndsAs budget listed ends.Spent = budget < listed.entries

-- the count of steps over a search: it rises by the entries that are listed, and by at most these
-- where memory was refused
abbrev pub CountsEntries : ℕ → ℕ → ℕ → Result SearchEnd NoMemory → Type 0
CountsEntries entries before now (Ok _) = now ≡ before + entries
CountsEntries entries before now (Err _) = (before ≤ now) × (now ≤ before + entries)

-- ---- in the words of the subject

-- what is found is a timetable; no solution is told only where no times at all are one; and the
-- budget is spent only where it is below the number of entries that no listing exceeds
abbrev pub EndIsRight : Problem → ℕ → SearchEnd → Type 0
EndIsRight problem budget (ends.Found found) = IsTimetable problem found.times.items
EndIsRight problem budget ends.NoSolution = (times : List ℕ) → ¬ IsTimetable problem times
EndIsRight problem budget ends.Spent = budget < most_entries problem
