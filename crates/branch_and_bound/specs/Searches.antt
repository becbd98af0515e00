-- Inner words: a search between two entries. A reader of the contracts of this crate needs none of
-- them.
use Rattle.std.specs.Prelude.{◌≡◌, ℕ, List, [], ◌∷◌, ◌++◌, length, Option, Some, None}
use Rattle.std.specs.List.{AllByRecursion}
use Rattle.branch_and_bound.specs.Branchings.{BranchingParts, Entry, best_after, nodes_in}
use Rattle.branch_and_bound.specs.Listings.{listing, visits}

-- a search: the regions that wait, the nodes of the entries so far, and the best solution of them
pub record SearchParts (R N S : Type 0) : Type 0 where
  pub waiting : List R
  pub nodes : List N
  pub best : Option S

-- the regions that wait behind an entry: the parts of its region first
abbrev pub behind : {R : Type 0} → Option (R × R) → List R → List R
behind None waiting = waiting
behind (Some two) waiting = two.0 ∷ two.1 ∷ waiting

-- the next region is taken from those that wait, where there is one
abbrev pub Pops : {R N S : Type 0} → SearchParts R N S → SearchParts R N S → Option R → Type 0
Pops before after None = (before.waiting ≡ []) × (after ≡ before)
Pops before after (Some region) =
    before ≡ record {
      waiting = region ∷ after.waiting;
      nodes = after.nodes;
      best = after.best;
    }

-- a search behind so many entries: these and those of the regions that wait are the listing
pub record IsSearched {R N S : Type 0} (problem : BranchingParts R N S) (Fits : R → Type 0)
    (search : SearchParts R N S) (count : ℕ) : Type 0 where
  pub done : List (Entry N S)
  pub whole : done ++ visits problem search.waiting search.best ≡ listing problem
  pub nodes_are : search.nodes ≡ nodes_in done
  pub best_is : search.best ≡ best_after None done
  pub count_is : length done ≡ count
  pub fit : AllByRecursion Fits search.waiting

-- an entry of a region is taken
pub record TakesEntry {R N S : Type 0} (problem : BranchingParts R N S) (region : R)
    (before after : SearchParts R N S) : Type 0 where
  pub waiting : after.waiting
      ≡ behind (problem.parts region (problem.look region before.best).0) before.waiting
  pub nodes : after.nodes ≡ before.nodes ++ (problem.look region before.best).0 ∷ []
  pub best : after.best ≡ best_after before.best (problem.look region before.best ∷ [])
