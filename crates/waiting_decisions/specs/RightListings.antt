-- What is right about the listing of a search.
use Rattle.std.specs.Prelude.{ℕ, ◌≡◌, ◌⊎◌, Bool, true, List, length, Option, Some, None}
use Rattle.propagation.specs.Problems.{DelayProblem}
use Rattle.waiting_decisions.specs.declared.decision.Decision.{Decision}
use Rattle.waiting_decisions.specs.declared.decision.Decision.TheVariants as decision
use Rattle.waiting_decisions.specs.declared.waits.Waits.{Waits}
use Rattle.waiting_decisions.specs.Budgets.{waits_within}
use Rattle.waiting_decisions.specs.Choices.{Costs}
use Rattle.waiting_decisions.specs.Listings.{Choice, Entry, cut_off, entries_by, entry_at, found, listing, split}
use Rattle.waiting_decisions.specs.Regions.{CostsAtLeastIn, decided, is_free_at, lies_in, open_region}

-- the best choice so far costs no more than any set of a region
abbrev pub CostsNoMore : DelayProblem → ℕ → List Decision → Option Choice → Type 0
CostsNoMore problem penalty region None = ⊥
CostsNoMore problem penalty region (Some best) = CostsAtLeastIn problem penalty region best.cost

-- each set of a region lies in one of the two parts by a change
abbrev pub PartsCover : List Decision → ℕ → Type 0
PartsCover region change = (kept : List Bool) → lies_in region kept ≡ true
    → (lies_in (decided region change decision.Kept) kept ≡ true)
    ⊎ (lies_in (decided region change decision.Dropped) kept ≡ true)

-- What an entry says of a region holds. A region is cut off where the best choice so far costs no
-- more than any of its sets. A choice that is found costs what is told, and no set of the region
-- costs less. A split is by a change that is free, and leaves no set of the region out.
abbrev pub EntryHolds : DelayProblem → ℕ → List Decision → Option Choice → Entry → Type 0
EntryHolds problem penalty region best cut_off = CostsNoMore problem penalty region best
EntryHolds problem penalty region best (found choice) =
    Costs problem penalty choice.kept choice.cost
    × CostsAtLeastIn problem penalty region choice.cost
EntryHolds problem penalty region best (split change) =
    (is_free_at region change ≡ true) × PartsCover region change

-- A waiting decision is that of a listing. The entries of a region are its own one and, after a
-- split, those of both parts: however deep it is split, none are left out. What each entry says
-- holds. The listing is that of the region in which no change is decided.
pub record IsListed (problem : DelayProblem) (penalty budget : ℕ) (waits : Waits) : Type 0 where
  pub entries : List Decision → Option Choice → List Entry
  pub unrolls : (region : List Decision) (best : Option Choice) → entries region best
      ≡ entries_by entries region best (entry_at problem penalty region best)
  pub holds : (region : List Decision) (best : Option Choice)
      → length region ≡ length problem.changes
      → EntryHolds problem penalty region best (entry_at problem penalty region best)
  pub whole : entries (open_region problem) None ≡ listing problem penalty
  pub gives : waits_within budget (listing problem penalty) ≡ Some waits
