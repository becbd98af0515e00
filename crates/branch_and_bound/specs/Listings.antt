-- The listing of a search: what it says of each region that it comes to.
use Rattle.std.specs.Prelude.{ℕ, zero, suc, ◌+◌, nat_le, min, if◌then◌else◌, List, [], ◌∷◌, ◌++◌}
use Rattle.std.specs.Prelude.{length, take, Option, Some, None}
use Rattle.branch_and_bound.specs.declared.found.Found.{Found}
use Rattle.branch_and_bound.specs.Branchings.{BranchingParts, Entry, best_after, nodes_in}

-- the entries of a region by its own one: behind a split those of the first part, and then those of
-- the second part with the best so far
abbrev pub entries_by : {R N S : Type 0} → (R → Option S → List (Entry N S)) → Option S
    → Entry N S → Option (R × R) → List (Entry N S)
entries_by below best entry None = entry ∷ []
entries_by below best entry (Some two) =
    entry ∷ below two.0 best ++ below two.1 (best_after best (below two.0 best))

-- the entries of a region, where it is split so many levels deep at most
unfoldable pub entries_within : {R N S : Type 0} → BranchingParts R N S → ℕ → R → Option S
    → List (Entry N S)
entries_within problem zero region best = []
entries_within problem (suc levels) region best =
    entries_by (entries_within problem levels) best (problem.look region best)
    (problem.parts region (problem.look region best).0)

-- the entries of a region beside the best solution so far
abbrev pub visit : {R N S : Type 0} → BranchingParts R N S → R → Option S → List (Entry N S)
visit problem region best = entries_within problem (problem.levels region + 1) region best

-- the listing of a problem: that of its root, without a best solution
unfoldable pub listing : {R N S : Type 0} → BranchingParts R N S → List (Entry N S)
listing problem = visit problem problem.root None

-- the entries of some regions, one after the other, each beside the best solution so far
unfoldable pub visits : {R N S : Type 0} → BranchingParts R N S → List R → Option S
    → List (Entry N S)
visits problem [] best = []
visits problem (region ∷ waiting) best =
    visit problem region best
    ++ visits problem waiting (best_after best (visit problem region best))

-- what a search within a budget of entries finds: the best solution, the nodes of the listing where
-- the budget is enough, and how many entries were listed
abbrev pub found_within : {R N S : Type 0} → BranchingParts R N S → ℕ → Found N S
found_within problem budget = record {
  best = best_after None (take budget (listing problem));
  tree = if nat_le (length (listing problem)) budget then Some (nodes_in (listing problem))
      else None;
  entries = min budget (length (listing problem));
}
