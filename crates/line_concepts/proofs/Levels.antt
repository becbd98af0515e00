-- More levels than a region needs list the same.
use Rattle.plan_num.proofs.Common.{◌≡◌, ℕ, zero, suc, ◌+◌, ◌-◌, ◌≤◌, ◌<◌, List, [], ◌∷◌, refl}
use Rattle.plan_num.proofs.Common.{arith, Option, sum_by, sum_by-cons}
use Rattle.line_cost_model.specs.declared.range.LineRange.{LineRange}
use Rattle.line_cost_model.proofs.Common.{ProblemParts, part_from, part_up_to, range_of}
use Rattle.line_concepts.specs.declared.node.Node.TheVariants as node
use Rattle.line_concepts.specs.Listings.{Entry, entries_by, entries_within, levels_of, middle}
use Rattle.line_concepts.specs.Listings.{visit, node_at}
use Rattle.line_concepts.proofs.Lengths.{AreOrdered, IsOpenAt, lower_ordered, middle_inside}
use Rattle.line_concepts.proofs.Lengths.{node_cases, upper_ordered}

abbrev width : LineRange → ℕ
width range = range.hi - range.lo

pub fewer_below : (region : List LineRange) (line at : ℕ) → IsOpenAt region line → (range_of region line).lo ≤ at
    → at < (range_of region line).hi → levels_of (part_up_to region line at) < levels_of region
fewer_below [] line at is_open low high = absurd (omega (arith, is_open.0))
fewer_below (range ∷ region) zero at is_open low high =
    omega (
      arith,
      low,
      high,
      sum_by-cons width range region,
      sum_by-cons width
          (record { lo = range.lo; hi = at }) region,
    )
fewer_below (range ∷ region) (suc line) at is_open low high =
    omega (
      arith,
      sum_by-cons width range region,
      sum_by-cons width range
          (part_up_to region line at),
      fewer_below region line at (omega (arith, is_open.0), is_open.1) low
          high,
    )

pub fewer_above : (region : List LineRange) (line at : ℕ) → IsOpenAt region line → (range_of region line).lo ≤ at
    → at < (range_of region line).hi → levels_of (part_from region line (at + 1)) < levels_of region
fewer_above [] line at is_open low high = absurd (omega (arith, is_open.0))
fewer_above (range ∷ region) zero at is_open low high =
    omega (
      arith,
      low,
      high,
      sum_by-cons width range region,
      sum_by-cons width
          (record { lo = at + 1; hi = range.hi }) region,
    )
fewer_above (range ∷ region) (suc line) at is_open low high =
    omega (
      arith,
      sum_by-cons width range region,
      sum_by-cons width range
          (part_from region line (at + 1)),
      fewer_above region line at
          (omega (arith, is_open.0), is_open.1) low high,
    )

-- two ways to list the parts of a split agree
abbrev Agree : (List LineRange → Option (List ℕ) → List Entry)
    → (List LineRange → Option (List ℕ) → List Entry) → ℕ → Type 0
Agree one other most = (region : List LineRange) (best : Option (List ℕ)) → AreOrdered region
    → levels_of region ≤ most → one region best ≡ other region best

split_agrees : (one other : List LineRange → Option (List ℕ) → List Entry) (most : ℕ) → Agree one other most
    → (region : List LineRange) (best : Option (List ℕ)) → AreOrdered region → levels_of region ≤ most + 1
    → (line : ℕ) → IsOpenAt region line
    → entries_by one region best (node.Split line (middle (range_of region line)))
    ≡ entries_by other region best (node.Split line (middle (range_of region line)))
split_agrees one other most agree region best ordered few line is_open =
    grind (arith, middle_inside, lower_ordered, fewer_below, upper_ordered, fewer_above)

pub same_levels : (problem : ProblemParts) (m n most : ℕ) → most ≤ m → most ≤ n
    → Agree (entries_within problem m) (entries_within problem n) most
unfolding entries_within
same_levels problem zero n most hm hn region best ordered few = absurd (omega (arith, hm, few))
same_levels problem (suc m) zero most hm hn region best ordered few = absurd (omega (arith, hn, few))
same_levels problem (suc m) (suc n) most hm hn region best ordered few =
    node_cases problem region best (λ at. entries_by (entries_within problem m) region best at ≡ entries_by
    (entries_within problem n) region best at)
    (λ e s. refl) (λ ms. refl) refl
    (split_agrees (entries_within problem m) (entries_within problem n) (most - 1)
    (same_levels problem m n (most - 1) (omega (arith, hm)) (omega (arith, hn))) region best ordered
    (omega (arith, few)))

visit_agrees : (problem : ProblemParts) (most : ℕ) → Agree (entries_within problem most) (visit problem) most
visit_agrees problem most region best ordered few = same_levels problem most (levels_of region)
    (levels_of region) few (omega arith) region best ordered (omega arith)

-- the listing as it is told in words: what is said of a region, and behind a split the visits of its parts
pub visit_unrolls : (problem : ProblemParts) (region : List LineRange) (best : Option (List ℕ))
    → AreOrdered region → visit problem region best ≡ entries_by (visit problem) region best
    (node_at problem region best)
unfolding entries_within
visit_unrolls problem region best ordered =
    let one_more : levels_of region ≡ suc (sum_by width region) = omega arith in
    rw one_more (node_cases problem region best
    (λ at. entries_by (entries_within problem (sum_by width region)) region best at ≡ entries_by
    (visit problem) region best at)
    (λ e s. refl) (λ ms. refl) refl
    (split_agrees (entries_within problem (sum_by width region)) (visit problem) (sum_by width region)
    (visit_agrees problem (sum_by width region)) region best ordered (omega arith)))
