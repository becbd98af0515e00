-- The concept that a whole listing finds is the chosen one, and its nodes certify what it costs; what any
-- first entries find is feasible.
use Rattle.plan_num.proofs.Common.{◌≡◌, ℕ, zero, suc, pos, List, [], ◌∷◌, ◌++◌, length, take}
use Rattle.plan_num.proofs.Common.{filter_map, Option, Some, None, IfSome, ⊎_elim, subst, arith}
use Rattle.plan_num.proofs.Common.{AllByRecursion, cons_option, last_or, ints, length-map}
use Rattle.line_cost_model.specs.declared.range.LineRange.{LineRange}
use Rattle.line_cost_model.proofs.Common.{IsChosen, IsFeasible, cost_of, CostedLine, IsProblem}
use Rattle.line_cost_model.proofs.Common.{ProblemParts, most_of, range_of, root_of, root_has_each}
use Rattle.line_concepts.specs.Certified.{Certifies}
use Rattle.line_concepts.specs.declared.node.Node.TheVariants as node
use Rattle.line_concepts.specs.Budgets.{nodes_in}
use Rattle.line_concepts.specs.Listings.{Entry, best_after, entries_by, entries_within, levels_of}
use Rattle.line_concepts.specs.Listings.{listing, middle}
use Rattle.line_concepts.proofs.Lengths.{AreOrdered, IsOpenAt, first_open_is, lower_ordered}
use Rattle.line_concepts.proofs.Lengths.{middle_inside, root_ordered, upper_ordered}
use Rattle.line_concepts.proofs.Said.{said}
use Rattle.line_concepts.proofs.Visited.{IsVisited}
use Rattle.line_concepts.proofs.VisitedRegions.{part_length, visited}

module _ (problem : ProblemParts) (sound : IsProblem problem) where
  root_long : length (root_of problem) ≡ length problem.lines
  root_long = length-map problem.lines (λ (line : CostedLine). record { lo = 0; hi = most_of problem.edges line })

  whole : IsVisited problem (root_of problem) None (best_after None (listing problem)) (nodes_in (listing problem))
  unfolding listing
  whole =
      visited problem sound (levels_of (root_of problem)) (root_of problem) None root_long
      (root_ordered problem.edges problem.lines) (omega arith) (λ chosen is. absurd (cc))

  -- where a concept is found, it is the chosen one
  pub found_is_chosen : (concept : List ℕ) → best_after None (listing problem) ≡ Some concept
      → IsChosen problem concept
  found_is_chosen concept is = record {
    feasible = ⊎_elim (λ none. absurd (cc)) (λ found. found.feasible) (whole.found concept is);
    cheapest = λ other feasible. grind (arith, whole, root_has_each);
    first = λ other feasible equal before. grind (arith, whole, root_has_each);
  }

  -- and the nodes of the listing certify what it costs
  pub nodes_certify : (concept : List ℕ) → best_after None (listing problem) ≡ Some concept
      → Certifies problem (pos (cost_of problem concept)) (nodes_in (listing problem))
  nodes_certify concept is = grind (arith, whole, ints)

  -- where none is found, none is feasible
  pub none_is_feasible : best_after None (listing problem) ≡ None → (concept : List ℕ)
      → ¬ IsFeasible problem concept
  none_is_feasible none concept feasible = grind (arith, whole, root_has_each)

-- ---- what entries find is feasible

module _ (problem : ProblemParts) where
  abbrev pub FindsFeasible : Entry → Type 0
  FindsFeasible entry = IfSome entry.found (IsFeasible problem)

  abbrev pub AllFeasible : List Entry → Type 0
  AllFeasible entries = AllByRecursion FindsFeasible entries

  both_find : (front back : List Entry) → AllFeasible front → AllFeasible back
      → AllFeasible (front ++ back)
  both_find [] back h k = k
  both_find (entry ∷ front) back h k = (h.0, both_find front back h.1 k)

  pub some_find : (count : ℕ) (entries : List Entry) → AllFeasible entries
      → AllFeasible (take count entries)
  some_find zero entries h = tt
  some_find (suc count) [] h = tt
  some_find (suc count) (entry ∷ entries) h = (h.0, some_find count entries h.1)

  -- the best concept behind some entries is feasible
  pub best_feasible : (best : Option (List ℕ)) (entries : List Entry)
      → IfSome best (IsFeasible problem) → AllFeasible entries
      → IfSome (best_after best entries) (IsFeasible problem)
  best_feasible best [] own h = own
  best_feasible best (entry ∷ entries) own h = by entry.found h.0 (λ best own. best_feasible best entries own h.1)
    where
      by : (found : Option (List ℕ)) → IfSome found (IsFeasible problem)
          → ((best : Option (List ℕ)) → IfSome best (IsFeasible problem)
          → IfSome (last_or best (filter_map (λ entry. entry.found) entries))
          (IsFeasible problem))
          → IfSome (last_or best (cons_option found (filter_map (λ entry. entry.found) entries))) (IsFeasible problem)
      by None feasible rest = rest best own
      by (Some concept) feasible rest = rest (Some concept) feasible

  split_find : (levels : ℕ) (region : List LineRange) (best : Option (List ℕ))
      → length region ≡ length problem.lines → AreOrdered region
      → ((region : List LineRange) (best : Option (List ℕ)) → length region ≡ length problem.lines
      → AreOrdered region → AllFeasible (entries_within problem levels region best))
      → (line : ℕ) → IsOpenAt region line
      → AllFeasible (entries_by (entries_within problem levels) region best
      (node.Split line (middle (range_of region line))))
  split_find levels region best long ordered below line is_open =
      grind (arith, middle_inside, both_find, part_length, lower_ordered, upper_ordered)

  entries_find : (levels : ℕ) (region : List LineRange) (best : Option (List ℕ))
      → length region ≡ length problem.lines → AreOrdered region
      → AllFeasible (entries_within problem levels region best)
  unfolding entries_within
  entries_find zero region best long ordered = tt
  entries_find (suc levels) region best long ordered =
      said problem region best
      (λ node. AllFeasible (entries_by (entries_within problem levels) region best node)) long
      ordered
      (λ edge side shows. (tt, tt)) (λ chosen is low. (tt, tt))
      (λ line is. split_find levels region best long ordered (entries_find levels) line
      (subst (λ o. IfSome o (IsOpenAt region)) is (first_open_is problem region)))
      (λ one feasible above. (feasible, tt))

  pub listing_finds : AllFeasible (listing problem)
  unfolding listing
  listing_finds =
      entries_find (levels_of (root_of problem)) (root_of problem) None
      (length-map problem.lines
      (λ (line : CostedLine). record { lo = 0; hi = most_of problem.edges line }))
      (root_ordered problem.edges problem.lines)
