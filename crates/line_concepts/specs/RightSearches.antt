-- What is right about what a search finds.
use Rattle.std.specs.Prelude.{◌≡◌, ◌≢◌, ℕ, pos, ◌+◌, ◌*◌, ◌≤◌, List, length, take, Option, None}
use Rattle.std.specs.Prelude.{Some, IfSome}
use Rattle.std.specs.List.{AllByRecursion, AllPairs, Contains}
use Rattle.line_cost_model.specs.declared.range.LineRange.{LineRange}
use Rattle.line_cost_model.specs.Chosen.{IsChosen}
use Rattle.line_cost_model.specs.Concepts.{IsFeasible, cost_of}
use Rattle.line_cost_model.specs.Problems.{ProblemParts}
use Rattle.line_cost_model.specs.Regions.{LiesIn, concept_count, concepts_in, root_of}
use Rattle.line_concepts.specs.Certified.{Certifies}
use Rattle.line_concepts.specs.declared.search.Searched.{Searched}
use Rattle.line_concepts.specs.Budgets.{nodes_in}
use Rattle.line_concepts.specs.Listings.{best_after, entries_by, listing, node_at, visit}

-- no concept is feasible
abbrev pub NoneIsFeasible : ProblemParts → Type 0
NoneIsFeasible problem = (concept : List ℕ) → ¬ IsFeasible problem concept

-- the concept that the whole listing of a problem finds, where it finds one
abbrev pub found_by : ProblemParts → Option (List ℕ)
found_by problem = best_after None (listing problem)

-- the ends of each range are in order
abbrev pub AreOrdered : List LineRange → Type 0
AreOrdered region = AllByRecursion (λ range. range.lo ≤ range.hi) region

-- The concepts of a region are listed: each that lies in it and no other, none of them twice, and
-- there are as many as are counted.
pub record AreListed (region : List LineRange) : Type 0 where
  pub each : (concept : List ℕ) → LiesIn region concept → Contains (concepts_in region) concept
  pub only : (concept : List ℕ) → Contains (concepts_in region) concept → LiesIn region concept
  pub once : AllPairs (λ concept other. concept ≢ other) (concepts_in region)
  pub many : length (concepts_in region) ≡ concept_count region

-- What a search finds is right: it is the chosen concept, which means that no feasible one costs
-- less, and none of equal cost comes before it; and the nodes of the listing certify what it costs.
-- Where it finds none, no concept is feasible.
pub record SearchIsRight (problem : ProblemParts) : Type 0 where
  pub chosen : IfSome (found_by problem) (IsChosen problem)
  pub certified : IfSome (found_by problem)
      (λ concept. Certifies problem (pos (cost_of problem concept)) (nodes_in (listing problem)))
  pub none : found_by problem ≡ None → NoneIsFeasible problem

-- A listing is whole, whatever the problem. It has levels enough: the entries of a region, as the
-- root is, are what is said of it and, behind a split, the entries of both parts; however deep it
-- is split, none are left out. What any first entries find is feasible. The count of concepts, by
-- which a budget is enough, is that of those that lie in a region.
pub record ListingIsWhole (problem : ProblemParts) : Type 0 where
  pub ordered : AreOrdered (root_of problem)
  pub enough_levels : (region : List LineRange) (best : Option (List ℕ)) → AreOrdered region
      → visit problem region best
      ≡ entries_by (visit problem) region best (node_at problem region best)
  pub feasible : (count : ℕ)
      → IfSome (best_after None (take count (listing problem))) (IsFeasible problem)
  pub counted : (region : List LineRange) → AreListed region

-- a budget that is never spent: one less than twice the number of concepts of the root region, or
-- more
abbrev pub IsEnough : ProblemParts → ℕ → Type 0
IsEnough problem budget = 2 * concept_count (root_of problem) ≤ budget + 1

-- What a search within a budget found is right. A concept that it found is feasible. Where there is
-- a tree, that concept is the chosen one, and the tree certifies what it costs; without a concept
-- none is feasible. A budget that is enough is never spent: there is a tree.
pub record FoundIsRight (problem : ProblemParts) (budget : ℕ) (found : Searched) : Type 0 where
  pub feasible : IfSome found.best (λ best. IsFeasible problem best.frequencies.items)
  pub chosen : IfSome found.tree
      (λ _. IfSome found.best (λ best. IsChosen problem best.frequencies.items))
  pub certified : IfSome found.tree
      (λ tree. IfSome found.best (λ best. Certifies problem best.cost tree))
  pub none : IfSome found.tree (λ _. found.best ≡ None → NoneIsFeasible problem)
  pub whole : IsEnough problem budget → found.tree ≡ Some (nodes_in (listing problem))
