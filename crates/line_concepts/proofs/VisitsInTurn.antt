-- The visits of the regions that wait, entry by entry.
use Rattle.plan_num.proofs.Common.{arith, ◌≡◌, ℕ, ◌<◌, false, List, [], ◌∷◌, ◌++◌, length}
use Rattle.plan_num.proofs.Common.{filter_map, refl, Option, Some, None, le-leb, lt-ltb}
use Rattle.plan_num.proofs.Common.{append_assoc, append-nil, length-map, length-set}
use Rattle.plan_num.proofs.Common.{filter_map-append, AllByRecursion, last_or}
use Rattle.line_cost_model.specs.declared.range.LineRange.{LineRange}
use Rattle.line_cost_model.proofs.Common.{ProblemParts, range_of, root_of}
use Rattle.line_concepts.specs.declared.node.Node.{Node}
use Rattle.line_concepts.specs.declared.node.Node.TheVariants as node
use Rattle.line_concepts.specs.TreeFaults.{splits_outside}
use Rattle.line_concepts.specs.Walks.{SplitsOne, behind_node}
use Rattle.line_concepts.specs.Listings.{Entry, best_after, entries_by, listing}
use Rattle.line_concepts.specs.Listings.{middle, node_at, visit}
use Rattle.line_concepts.specs.Searches.{IsVisited, entry_of, visits}
use Rattle.line_concepts.proofs.Lengths.{IsOpenAt, lower_ordered, middle_inside}
use Rattle.line_concepts.proofs.Lengths.{node_cases, root_ordered, upper_ordered}
use Rattle.line_concepts.proofs.Levels.{visit_unrolls}

-- ---- the best concept behind entries

last_behind : {X : Type 0} (best : Option X) (xs ys : List X)
    → last_or best (xs ++ ys) ≡ last_or (last_or best xs) ys
last_behind best [] ys = refl
last_behind best (x ∷ xs) ys = last_behind (Some x) xs ys

pub best_behind : (best : Option (List ℕ)) (xs ys : List Entry)
    → best_after best (xs ++ ys) ≡ best_after (best_after best xs) ys
best_behind best xs ys = grind (arith, filter_map-append, last_behind, filter_map)

-- ---- one entry

module _ (problem : ProblemParts) (waiting : List (List LineRange)) (best : Option (List ℕ)) where
  turn_by : (region : List LineRange) (at : Node)
      → visit problem region best ≡ entries_by (visit problem) region best at
      → visits problem (region ∷ waiting) best
      ≡ entry_of region at ∷ visits problem (behind_node region waiting at)
      (best_after best (entry_of region at ∷ []))
  unfolding visits
  turn_by region (node.Split line at) is = grind (arith, append_assoc, best_behind)
  turn_by region (node.Empty edge side) is = λ i. is i ++ visits problem waiting (best_after best (is i))
  turn_by region (node.Bound multipliers) is =
      λ i. is i ++ visits problem waiting (best_after best (is i))
  turn_by region node.Point is = λ i. is i ++ visits problem waiting (best_after best (is i))

  -- the first entry of the first region
  pub visit_turn : (region : List LineRange) → IsVisited problem region
      → visits problem (region ∷ waiting) best
      ≡ entry_of region (node_at problem region best)
      ∷ visits problem (behind_node region waiting (node_at problem region best))
      (best_after best (entry_of region (node_at problem region best) ∷ []))
  visit_turn region own =
      turn_by region (node_at problem region best) (visit_unrolls problem region best own.ordered)

-- ---- the regions behind it

-- a split lies in its range
pub split_inside : (problem : ProblemParts) (region : List LineRange) (best : Option (List ℕ))
    → SplitsOne region (node_at problem region best)
    × (splits_outside region (node_at problem region best) ≡ false)
split_inside problem region best =
    node_cases problem region best (λ at. SplitsOne region at × (splits_outside region at ≡ false))
    (λ edge side. (tt, refl)) (λ multipliers. (tt, refl)) (tt, refl) split
  where
    split : (line : ℕ) → IsOpenAt region line
        → (line < length region)
        × (splits_outside region (node.Split line (middle (range_of region line))) ≡ false)
    split line is_open = grind (arith, middle_inside, le-leb, lt-ltb)

pub visited_behind : (problem : ProblemParts) (region : List LineRange) (waiting : List (List LineRange))
    (best : Option (List ℕ)) → AllByRecursion (IsVisited problem) (region ∷ waiting)
    → AllByRecursion (IsVisited problem) (behind_node region waiting (node_at problem region best))
visited_behind problem region waiting best all =
    node_cases problem region best
    (λ at. AllByRecursion (IsVisited problem) (behind_node region waiting at))
    (λ edge side. all.1) (λ multipliers. all.1) all.1
    split
  where
    split : (line : ℕ) → IsOpenAt region line
        → AllByRecursion (IsVisited problem)
        (behind_node region waiting (node.Split line (middle (range_of region line))))
    split line is_open = grind (arith, middle_inside, lower_ordered, length-set, upper_ordered)

-- the root is the whole listing
pub root_visited : (problem : ProblemParts) → IsVisited problem (root_of problem)
root_visited problem =
    record { ordered = root_ordered problem.edges problem.lines; each = length-map problem.lines _ }

pub root_visits : (problem : ProblemParts) → visits problem (root_of problem ∷ []) None ≡ listing problem
unfolding visits listing
root_visits problem = append-nil (visit problem (root_of problem) None)
