-- A leaf that passes each test shows what it is to show, and the other way.
use Rattle.plan_num.proofs.Common.{◌≡◌, ℕ, ℤ, pos, ◌≤◌, ◌≤ℤ◌, ◌||◌, not, Bool, false, T, nat_le}
use Rattle.plan_num.proofs.Common.{int_le, List, [], ◌∷◌, All, zero, suc, refl, ap, sym, arith}
use Rattle.plan_num.proofs.Common.{le_z_yes, list_any, false≢true, leb-true, le-leb, ltb-false}
use Rattle.plan_num.proofs.Common.{le-ltb, T_from_true, AllPass-from_list_all}
use Rattle.plan_num.proofs.Common.{list_all-from_AllPass, not-false, or_parts}
use Rattle.line_cost_model.specs.declared.multipliers.Multiplier.{Multiplier}
use Rattle.line_cost_model.specs.declared.range.LineRange.{LineRange}
use Rattle.line_cost_model.specs.declared.side.Side.{Side}
use Rattle.line_cost_model.proofs.Common.{bound_by, open_lines, taken_off, ProblemParts}
use Rattle.line_cost_model.proofs.Common.{has_several}
use Rattle.line_concepts.specs.declared.node.Node.{Node}
use Rattle.line_concepts.specs.declared.node.Node.TheVariants as node
use Rattle.line_concepts.specs.Certified.{LeafCertifies, ShowsBound, ShowsEmpty, ShowsPoint}
use Rattle.line_concepts.specs.Certified.{SplitsInside}
use Rattle.line_concepts.specs.TreeFaults.{splits_outside, is_not_empty, exceeds_costs, is_below}
use Rattle.line_concepts.specs.TreeFaults.{is_no_point}
use Rattle.line_concepts.specs.Trees.{is_split}
use Rattle.plan_num.proofs.Tests.{is_true}

-- a node over a region passes each test
pub record Passes (problem : ProblemParts) (cost : ℤ) (region : List LineRange)
    (node : Node) : Type 0 where
  pub split : splits_outside region node ≡ false
  pub empty : is_not_empty problem region node ≡ false
  pub multiplier : exceeds_costs problem region node ≡ false
  pub bound : is_below problem cost region node ≡ false
  pub point : is_no_point problem cost region node ≡ false

-- the ends of a range are in order
abbrev pub InOrder : LineRange → Type 0
InOrder range = range.lo ≤ range.hi

-- ---- tests

at_most : (cost : ℤ) (n : ℕ) → not (int_le cost (pos n)) ≡ false → cost ≤ℤ pos n
at_most cost n h = le_z_yes (T_from_true _ (not-false (int_le cost (pos n)) h))

not_above : (cost : ℤ) (n : ℕ) → cost ≤ℤ pos n → not (int_le cost (pos n)) ≡ false
not_above cost n h = ap not (is_true (int_le cost (pos n)) h.le)

-- ---- splits

pub splits_inside : (region : List LineRange) (line at : ℕ)
    → splits_outside region (node.Split line at) ≡ false → SplitsInside region line at
splits_inside region line at h = grind arith

pub not_outside : (region : List LineRange) (line at : ℕ) → SplitsInside region line at
    → splits_outside region (node.Split line at) ≡ false
not_outside region line at inside = grind arith

-- ---- empty edges

shows_empty : (problem : ProblemParts) (region : List LineRange) (edge : ℕ) (s : Side)
    → is_not_empty problem region (node.Empty edge s) ≡ false → ShowsEmpty problem region edge s
shows_empty problem region edge s h = grind arith

-- ---- bounds

shows_bound : (problem : ProblemParts) (cost : ℤ) (region : List LineRange)
    (multipliers : List Multiplier)
    → exceeds_costs problem region (node.Bound multipliers) ≡ false
    → is_below problem cost region (node.Bound multipliers) ≡ false
    → ShowsBound problem cost region multipliers
shows_bound problem cost region multipliers within enough = record {
  within = λ k d h. leb-true _ _ (AllPass-from_list_all
      (λ line. nat_le (taken_off multipliers line) line.cost) (open_lines problem.lines region)
      (not-false _ within) k d h);
  enough = at_most cost (bound_by problem region multipliers) enough;
}

not_exceeding : (problem : ProblemParts) (cost : ℤ) (region : List LineRange)
    (multipliers : List Multiplier)
    → ShowsBound problem cost region multipliers
    → exceeds_costs problem region (node.Bound multipliers) ≡ false
not_exceeding problem cost region multipliers shown =
    grind (arith, list_all-from_AllPass, nat_le, le-leb)

-- ---- points

single : (region : List LineRange) → All InOrder region → list_any has_several region ≡ false
    → All (λ range. range.lo ≡ range.hi) region
single [] order none k d h = absurd (omega (arith, h))
single (range ∷ region) order none zero d h =
    let first : range.lo ≤ range.hi = order zero range (omega arith) in grind (
      arith,
      ltb-false,
      or_parts,
    )
single (range ∷ region) order none (suc k) d h =
    single region (λ k d h. order (suc k) d (omega (arith, h)))
    (or_parts (has_several range) (list_any has_several region) none).1 k d (omega (arith, h))

none_several : (region : List LineRange) → All (λ range. range.lo ≡ range.hi) region
    → list_any has_several region ≡ false
none_several [] one = refl
none_several (range ∷ region) one =
    let first : range.lo ≡ range.hi = one zero range (omega arith) in grind (
      arith,
      le-ltb,
      none_several region (λ k d h. one (suc k) d (omega (arith, h))),
    )

shows_point : (problem : ProblemParts) (cost : ℤ) (region : List LineRange) → All InOrder region
    → is_no_point problem cost region node.Point ≡ false → ShowsPoint problem cost region
shows_point problem cost region order h = grind (arith, or_parts, int_le, single, at_most)

is_a_point : (problem : ProblemParts) (cost : ℤ) (region : List LineRange)
    → ShowsPoint problem cost region
    → is_no_point problem cost region node.Point ≡ false
is_a_point problem cost region shown = grind (arith, none_several, not_above)

-- ---- leaves

pub leaf_shows : (problem : ProblemParts) (cost : ℤ) (region : List LineRange) (node : Node)
    → All InOrder region → is_split node ≡ false → Passes problem cost region node
    → LeafCertifies problem cost region node
leaf_shows problem cost region (node.Split line at) order is passes = absurd (false≢true (sym is))
leaf_shows problem cost region (node.Empty edge s) order is passes =
    shows_empty problem region edge s passes.empty
leaf_shows problem cost region (node.Bound multipliers) order is passes =
    shows_bound problem cost region multipliers passes.multiplier passes.bound
leaf_shows problem cost region node.Point order is passes =
    shows_point problem cost region order passes.point

pub leaf_passes : (problem : ProblemParts) (cost : ℤ) (region : List LineRange) (node : Node)
    → LeafCertifies problem cost region node → (is_split node ≡ false)
    × Passes problem cost region node
leaf_passes problem cost region (node.Split line at) shown = absurd shown
leaf_passes problem cost region (node.Empty edge s) shown = grind arith
leaf_passes problem cost region (node.Bound multipliers) shown =
    grind (arith, not_exceeding, not_above)
leaf_passes problem cost region node.Point shown = grind (arith, is_a_point)
