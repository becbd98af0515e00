-- What holds of the entries of each region holds of the listing: its nodes certify what the best concept
-- costs, and that is the chosen one.
use Rattle.plan_num.proofs.Common.{◌≡◌, ℕ, zero, suc, ℤ, pos, ◌+◌, ◌<◌, ◌≤◌, ◌≤ℤ◌, Bool, true}
use Rattle.plan_num.proofs.Common.{false, cond, ◌==◌, nat_lt, List, [], ◌∷◌, ◌++◌, fold, length}
use Rattle.plan_num.proofs.Common.{Option, Some, None, IfSome, inl, inr, ⊎_elim, nat_le, slice_set}
use Rattle.plan_num.proofs.Common.{refl, ap, sym, subst, ◌∙◌, arith, append-nil, All}
use Rattle.plan_num.proofs.Common.{AllByRecursion, enumerate_from, ints, leb-true, length-set}
use Rattle.plan_num.proofs.Common.{map-append, AllPass-from_list_all}
use Rattle.line_cost_model.specs.declared.multipliers.Multiplier.{Multiplier}
use Rattle.line_cost_model.specs.declared.edge.BoundedEdge.{BoundedEdge}
use Rattle.line_cost_model.specs.declared.range.LineRange.{LineRange}
use Rattle.line_cost_model.specs.declared.side.Side.{Side}
use Rattle.line_cost_model.proofs.Common.{IsFeasible, cost_of, are_within, dual_bound, least_left}
use Rattle.line_cost_model.proofs.Common.{open_lines, shortfall, taken_off, unless_zero, with_next}
use Rattle.line_cost_model.proofs.Common.{IsProblem, ProblemParts, least_in, part_from, part_up_to}
use Rattle.line_cost_model.proofs.Common.{range_of, bound_is_least, empty_is_none, one_concept}
use Rattle.line_cost_model.proofs.Common.{within_more, within_none}
use Rattle.line_cost_model.specs.DualBounds.{bound_by}
use Rattle.line_cost_model.specs.DualBounds.{multipliers_of}
use Rattle.line_concepts.specs.declared.node.Node.TheVariants as node
use Rattle.line_concepts.specs.Certified.{ShowsEmpty, TreeCertifies}
use Rattle.line_concepts.specs.Trees.{leaf, preorder}
use Rattle.line_concepts.specs.Budgets.{nodes_in}
use Rattle.line_concepts.specs.Listings.{Entry, best_after, entries_by, entries_within, levels_of}
use Rattle.line_concepts.specs.Listings.{middle}
use Rattle.line_concepts.proofs.Lengths.{AreOrdered, IsOpenAt, first_open_is, lower_ordered}
use Rattle.line_concepts.proofs.Lengths.{middle_inside, upper_ordered}
use Rattle.line_concepts.proofs.Levels.{fewer_above, fewer_below}
use Rattle.line_concepts.proofs.LowerFirst.{IsFirstOpen, first_open_first, lower_first}
use Rattle.line_concepts.proofs.Said.{IsOneConcept, said}
use Rattle.line_concepts.proofs.Visited.{CostsUpTo, IsFoundIn, IsVisited, StandsFirst, both_visited}
use Rattle.line_concepts.proofs.Visited.{least_inside, lower_inside, never_before_self}
use Rattle.line_concepts.proofs.Visited.{upper_inside}
use Rattle.line_concepts.proofs.VisitsInTurn.{best_behind as best_append}

-- ---- the multipliers of a region are within the costs of its open lines

all_within : (problem : ProblemParts) (region : List LineRange) (edges : List (ℕ × BoundedEdge))
    (before : List Multiplier) → are_within problem region before ≡ true
    → are_within problem region (fold (with_next problem region) before edges) ≡ true
all_within problem region [] before within = within
all_within problem region (at ∷ edges) before within =
    all_within problem region edges (with_next problem region before at)
    (one (nat_lt 0 (shortfall problem.lines region at.0 at.1)))
  where
    more : (amount : ℕ) → amount ≡ least_left problem region before at.0 → (zero_ : Bool)
        → are_within problem region (before ++ cond zero_ [] (record { edge = at.0; amount = amount } ∷ [])) ≡ true
    more amount is true = ap (are_within problem region) (append-nil before) ∙ within
    more amount is false = within_more problem region before at.0 amount is within

    one : (missing : Bool)
        → are_within problem region
        (before ++ unless_zero at.0 (cond missing (least_left problem region before at.0) 0))
        ≡ true
    one true = more (least_left problem region before at.0) refl (least_left problem region before at.0 == 0)
    one false = ap (are_within problem region) (append-nil before) ∙ within

pub multipliers_within : (problem : ProblemParts) (region : List LineRange)
    → are_within problem region (multipliers_of problem region) ≡ true
unfolding multipliers_of
multipliers_within problem region =
    all_within problem region (enumerate_from 0 problem.edges) [] (within_none problem region)

-- the least concept of a region costs no more than the region's dual bound
least_below : (problem : ProblemParts) (region : List LineRange)
    → cost_of problem (least_in region) ≤ dual_bound problem region
unfolding bound_by
least_below problem region = omega arith

pub part_length : (region : List LineRange) (line : ℕ) (range : LineRange)
    → length (slice_set region line range) ≡ length region
part_length region line range = length-set region line range

from_each : {X : Type 0} (P : X → Type 0) (xs : List X) → AllByRecursion P xs → All P xs
from_each P [] all k d h = absurd (omega (arith, h))
from_each P (x ∷ xs) all zero d h = all.0
from_each P (x ∷ xs) all (suc k) d h = from_each P xs all.1 k d (omega (arith, h))

-- ---- the entries of a region

up_to : (cost : ℤ) (a b : ℕ) → cost ≤ℤ pos a → a ≤ b → cost ≤ℤ pos b
up_to cost a b h k = omega (arith, ints, h, k)

module _ (problem : ProblemParts) (region : List LineRange) (best : Option (List ℕ)) where
  empty_visited : (edge : ℕ) (side : Side) → ShowsEmpty problem region edge side
      → IsVisited problem region best best (node.Empty edge side ∷ [])
  unfolding preorder TreeCertifies
  empty_visited edge side shows = record {
    tree = leaf (node.Empty edge side);
    whole = refl;
    certifies = λ cost h. shows;
    kept = λ none. none;
    found = λ concept is. inl is;
    least = λ concept feasible inside. grind (arith, empty_is_none);
  }

  bound_visited : StandsFirst problem region best → (chosen : List ℕ) → best ≡ Some chosen
      → cost_of problem chosen ≤ dual_bound problem region
      → IsVisited problem region best best (node.Bound (multipliers_of problem region) ∷ [])
  unfolding preorder TreeCertifies
  bound_visited first chosen is low =
      let within = multipliers_within problem region in
      record {
        tree = leaf (node.Bound (multipliers_of problem region));
        whole = refl;
        certifies = λ cost h. record {
          within = λ k d inside. leb-true _ _
              (AllPass-from_list_all
              (λ line. nat_le (taken_off (multipliers_of problem region) line) line.cost)
              (open_lines problem.lines region) within k d inside);
          enough = grind (arith, up_to, CostsUpTo);
        };
        kept = λ none. none;
        found = λ concept is. inl is;
        least = λ concept feasible inside. record {
          chosen = chosen;
          is = is;
          cheap = grind (arith, bound_is_least);
          first = λ equal. first chosen is concept inside;
        };
      }

  point_visited : AreOrdered region → IsOneConcept region → IsFeasible problem (least_in region)
      → IfSome best (λ y. dual_bound problem region < cost_of problem y)
      → IsVisited problem region best (Some (least_in region)) (node.Point ∷ [])
  unfolding preorder TreeCertifies
  point_visited ordered one feasible above = record {
    tree = leaf node.Point;
    whole = refl;
    certifies = λ cost h. record { one = from_each (λ range. range.lo ≡ range.hi) region one; enough = h };
    kept = λ none. absurd (cc);
    found = λ concept is.
        let same : least_in region ≡ concept = cc in
        inr (subst (IsFoundIn problem region best) same (record {
          inside = least_inside region ordered;
          feasible = feasible;
          cheaper = some_less best above;
        }));
    least = λ concept other inside. grind (arith, one_concept, never_before_self);
  }
    where
      some_less : (o : Option (List ℕ)) → IfSome o (λ y. dual_bound problem region < cost_of problem y)
          → IfSome o (λ other. cost_of problem (least_in region) < cost_of problem other)
      some_less None h = tt
      some_less (Some y) h = let below = least_below problem region in omega (arith, below, h)

-- ---- each region

module _ (problem : ProblemParts) (sound : IsProblem problem) where
  abbrev Visits : ℕ → List LineRange → Option (List ℕ) → Type 0
  Visits levels region best =
      IsVisited problem region best (best_after best (entries_within problem levels region best))
      (nodes_in (entries_within problem levels region best))

  split_visited : (levels : ℕ) (region : List LineRange) (best : Option (List ℕ))
      → length region ≡ length problem.lines → AreOrdered region → levels_of region ≤ suc levels
      → StandsFirst problem region best
      → ((region : List LineRange) (best : Option (List ℕ)) → length region ≡ length problem.lines
      → AreOrdered region → levels_of region ≤ levels → StandsFirst problem region best
      → Visits levels region best)
      → (line : ℕ) → IsOpenAt region line → IsFirstOpen problem region line
      → IsVisited problem region best
      (best_after best (entries_by (entries_within problem levels) region best
      (node.Split line (middle (range_of region line)))))
      (nodes_in (entries_by (entries_within problem levels) region best
      (node.Split line (middle (range_of region line)))))
  split_visited levels region best long ordered enough first below line is_open is_first =
      let at = middle (range_of region line) in
      let inside = middle_inside (range_of region line).lo (range_of region line).hi is_open.1 in
      let lower = entries_within problem levels (part_up_to region line at) best in
      let mid = best_after best lower in
      let upper = entries_within problem levels (part_from region line (at + 1)) mid in
      let lower_is : Visits levels (part_up_to region line at) best = below
      (part_up_to region line at) best (part_length region line _ ∙ long)
      (lower_ordered region line at ordered inside.0)
      (let less = fewer_below region line at is_open inside.0 inside.1 in omega
      (arith, less, enough))
      (λ chosen is concept in_part. first chosen is concept
      (lower_inside region line at concept (omega (arith, inside.1)) in_part)) in
      let upper_first : StandsFirst problem (part_from region line (at + 1)) mid = λ chosen is concept in_part. ⊎_elim
      (λ old. first chosen old concept (upper_inside region line (at + 1) concept (omega (arith, inside.0)) in_part))
      (λ new. lower_first problem sound region long line at is_open is_first concept chosen in_part new.inside)
      (lower_is.found chosen is) in
      let upper_is : Visits levels (part_from region line (at + 1)) mid = below
      (part_from region line (at + 1)) mid (part_length region line _ ∙ long)
      (upper_ordered region line at ordered inside.1)
      (let less = fewer_above region line at is_open inside.0 inside.1 in omega
      (arith, less, enough)) upper_first in
      let whole = both_visited problem region line at best mid (best_after mid upper)
      (nodes_in lower) (nodes_in upper) inside.0 inside.1 lower_is upper_is in
      subst (λ behind. IsVisited problem region best behind
      (nodes_in (entries_by (entries_within problem levels) region best
      (node.Split line at)))) (sym (best_append best lower upper))
      (subst (λ nodes. IsVisited problem region best (best_after mid upper)
      (node.Split line at ∷ nodes))
      (sym (map-append (λ (entry : Entry). entry.node) lower upper)) whole)

  pub visited : (levels : ℕ) (region : List LineRange) (best : Option (List ℕ))
      → length region ≡ length problem.lines → AreOrdered region → levels_of region ≤ levels
      → StandsFirst problem region best → Visits levels region best
  unfolding entries_within
  visited zero region best long ordered enough first = absurd (omega (arith, enough))
  visited (suc levels) region best long ordered enough first =
      said problem region best
      (λ node. IsVisited problem region best
      (best_after best (entries_by (entries_within problem levels) region best node))
      (nodes_in (entries_by (entries_within problem levels) region best node))) long ordered
      (empty_visited problem region best)
      (bound_visited problem region best first)
      (λ line is. split_visited levels region best long ordered enough first (visited levels) line
      (subst (λ o. IfSome o (IsOpenAt region)) is (first_open_is problem region))
      (subst (λ o. IfSome o (IsFirstOpen problem region)) is
      (first_open_first problem region)))
      (point_visited problem region best ordered)
