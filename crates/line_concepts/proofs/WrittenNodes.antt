-- The nodes of a listing can be written.
use Rattle.plan_num.proofs.Common.{◌≡◌, ℕ, zero, suc, ◌+◌, ◌≤◌, ◌<◌, ◌==◌, inl, inr, List, [], ◌∷◌}
use Rattle.plan_num.proofs.Common.{◌++◌, fold, length, Option, IfSome, All, arith, subst, ◌∙◌}
use Rattle.plan_num.proofs.Common.{AllByRecursion, enumerate_from, eqb-false, cases_Bool}
use Rattle.plan_num.proofs.Common.{append-nil, length-map, length-set, All-nil, All-cons}
use Rattle.plan_num.proofs.Common.{All-append, All-set, slice_get_within}
use Rattle.line_cost_model.specs.declared.edge.BoundedEdge.{BoundedEdge}
use Rattle.line_cost_model.specs.declared.multipliers.Multiplier.{Multiplier}
use Rattle.line_cost_model.specs.declared.range.LineRange.{LineRange}
use Rattle.line_cost_model.proofs.Common.{least_left, next_multiplier, unless_zero, with_next}
use Rattle.line_cost_model.proofs.Common.{AreMultipliers, IsAfter, CostedLine, IsProblem}
use Rattle.line_cost_model.proofs.Common.{ProblemParts, IsRange, part_from, part_up_to, range_of}
use Rattle.line_cost_model.proofs.Common.{multipliers_push, one_by_one, root_sound, few_left}
use Rattle.line_cost_model.specs.DualBounds.{multipliers_of}
use Rattle.line_concepts.specs.declared.node.Node.TheVariants as node
use Rattle.line_concepts.specs.Nodes.{IsInLimits, NamesWhatIs}
use Rattle.line_concepts.specs.Budgets.{nodes_in}
use Rattle.line_concepts.specs.Listings.{Entry, best_after, entries_by, entries_within}
use Rattle.line_concepts.specs.Listings.{listing, middle}
use Rattle.line_concepts.specs.Searches.{AreSound}
use Rattle.line_concepts.proofs.Lengths.{IsOpenAt, first_open_is, middle_inside}
use Rattle.line_concepts.proofs.NamedNodes.{multipliers_name}
use Rattle.line_concepts.proofs.Said.{said}

-- ---- the multipliers of a region are as they always are

module _ (problem : ProblemParts) (region : List LineRange)
    (few : (before : List Multiplier) (edge : ℕ) → least_left problem region before edge ≤ 1000000000000000000)
  where
    -- those of the edges before one
    abbrev AreBefore : ℕ → List Multiplier → Type 0
    AreBefore n multipliers = AreMultipliers multipliers × IsAfter multipliers n

    one_more : (n amount : ℕ) (before : List Multiplier) → amount ≤ 1000000000000000000
        → AreBefore n before → AreBefore (n + 1) (before ++ unless_zero n amount)
    one_more n amount before little own =
        let one : Multiplier = record { edge = n; amount = amount } in
        elim (cases_Bool (amount == 0)) [
          | inl is ↦ grind (arith, append-nil)
          | inr is ↦ rw is (
            multipliers_push before n amount own.0
                (record { some = omega (arith, eqb-false amount 0 is); few = little }) own.1,
            All-append (λ (one : Multiplier). one.edge < n + 1) before (one ∷ [])
                (λ k d h. omega (arith, own.1 k d h))
                (All-cons (λ (one : Multiplier). one.edge < n + 1) one [] (omega arith)
                (All-nil (λ (one : Multiplier). one.edge < n + 1))),
          )
        ]

    next_few : (before : List Multiplier) (at : ℕ × BoundedEdge)
        → next_multiplier problem region before at ≤ 1000000000000000000
    next_few before at = grind arith

    all_multipliers : (n : ℕ) (edges : List BoundedEdge) (before : List Multiplier) → AreBefore n before
        → AreMultipliers (fold (with_next problem region) before (enumerate_from n edges))
    all_multipliers n [] before own = own.0
    all_multipliers n (edge ∷ edges) before own =
        grind (
          arith,
          one_more,
          next_few,
          all_multipliers (n + 1) edges (with_next problem region before (n, edge))
              (one_more n (next_multiplier problem region before (n, edge)) before
              (next_few before (n, edge)) own),
        )

no_multipliers : AreMultipliers []
no_multipliers = grind arith

-- ---- the nodes of each region

module _ (problem : ProblemParts) (sound : IsProblem problem) where
  are_multipliers : (region : List LineRange) → AreMultipliers (multipliers_of problem region)
  unfolding multipliers_of
  are_multipliers region =
      all_multipliers problem region
      (λ before edge. few_left problem region before edge
      (one_by_one (λ (line : CostedLine). line.cost ≤ 1000000000000000000) problem.lines
      (λ k d h. (sound.lines k d h).cheap)))
      0 problem.edges [] (no_multipliers, All-nil (λ (one : Multiplier). one.edge < 0))

  -- an entry whose node can be written
  abbrev IsWritten : Entry → Type 0
  IsWritten entry = NamesWhatIs problem entry.node × IsInLimits entry.node

  abbrev AllWritten : List Entry → Type 0
  AllWritten entries = AllByRecursion IsWritten entries

  both_written : (front back : List Entry) → AllWritten front → AllWritten back
      → AllWritten (front ++ back)
  both_written [] back h k = k
  both_written (entry ∷ front) back h k = (h.0, both_written front back h.1 k)

  module _ (levels : ℕ)
      (below : (region : List LineRange) (best : Option (List ℕ))
      → length region ≡ length problem.lines → All IsRange region
      → AllWritten (entries_within problem levels region best))
      (region : List LineRange) (best : Option (List ℕ)) (long : length region ≡ length problem.lines)
      (ranges : All IsRange region) where
    split_written : (line : ℕ) → IsOpenAt region line
        → AllWritten (entries_by (entries_within problem levels) region best
        (node.Split line (middle (range_of region line))))
    split_written line is_open =
        let range = range_of region line in
        let own : IsRange range = ranges line (record { lo = 0; hi = 0 }) is_open.0 in
        let at = middle range in
        let inside = middle_inside range.lo range.hi is_open.1 in
        let lower = entries_within problem levels (part_up_to region line at) best in
        let first = All-set IsRange region line (record { lo = range.lo; hi = at })
        (record { in_order = inside.0; few = omega (arith, own.few, inside.1) }) ranges in
        let second = All-set IsRange region line (record { lo = at + 1; hi = range.hi })
        (record { in_order = omega (arith, inside.1); few = own.few }) ranges in (
          (omega (arith, is_open.0, long), omega (arith, own.few, inside.1)),
          both_written lower _
              (below (part_up_to region line at) best (length-set region line _ ∙ long) first)
              (below (part_from region line (at + 1)) (best_after best lower)
              (length-set region line _ ∙ long) second),
        )

    region_written : AllWritten (entries_within problem (suc levels) region best)
    unfolding entries_within
    region_written =
        said problem region best
        (λ node. AllWritten (entries_by (entries_within problem levels) region best node)) long
        (one_by_one (λ (range : LineRange). range.lo ≤ range.hi) region
        (λ k d h. (ranges k d h).in_order))
        (λ edge side shows. ((slice_get_within problem.edges edge shows.0 shows.1, tt), tt))
        (λ chosen is low. ((multipliers_name problem region, are_multipliers region), tt))
        (λ line is. split_written line
        (subst (λ found. IfSome found (IsOpenAt region)) is (first_open_is problem region)))
        (λ one feasible above. ((tt, tt), tt))

  all_written : (levels : ℕ) (region : List LineRange) (best : Option (List ℕ))
      → length region ≡ length problem.lines → All IsRange region
      → AllWritten (entries_within problem levels region best)
  unfolding entries_within
  all_written zero region best long ranges = tt
  all_written (suc levels) region best long ranges =
      region_written levels (all_written levels) region best long ranges

  nodes_written : (entries : List Entry) → AllWritten entries → AreSound problem (nodes_in entries)
  nodes_written [] h = grind (arith, All-nil)
  nodes_written (entry ∷ entries) h = grind (arith, All-cons, nodes_written entries h.1)

  pub listing_written : AreSound problem (nodes_in (listing problem))
  unfolding listing
  listing_written = grind (arith, nodes_written, all_written, length-map, root_sound)
