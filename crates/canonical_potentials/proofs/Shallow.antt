-- Where potentials are valid, no walk goes further below 0 than all of them together.
use Rattle.plan_num.proofs.Common.{◌≡◌, ℕ, ℤ, zero, suc, pos, neg_ℤ, ◌+◌, ◌*◌, ◌≤◌, ◌+ℤ◌, ◌-ℤ◌}
use Rattle.plan_num.proofs.Common.{◌≤ℤ◌, nat_lt, not, is_some, Bool, true, false, cond, List, []}
use Rattle.plan_num.proofs.Common.{◌∷◌, length, unwrap_or, sum, get_or, Option, Some, None, IfSome}
use Rattle.plan_num.proofs.Common.{option_map, refl, ap, sym, ◌∙◌, arith, false≢true, and_parts}
use Rattle.plan_num.proofs.Common.{not-true, ints, sum_by-cons, none-some, same_Some}
use Rattle.link_plans.proofs.Common.{next, is_trip, IsPlan, Links, AreLinks, is_trip_same}
use Rattle.link_plans.proofs.Common.{same_is_trip, PotentialParts, at, total, AreValid, IsTight}
use Rattle.link_plans.proofs.Common.{gains_all, gains_from, gains_more}
use Rattle.canonical_potentials.specs.Drops.{DropParts, drop_at, IsSearched}
use Rattle.canonical_potentials.specs.Residual.{Node, root, left, right, arc, free_arc, walk_cost}
use Rattle.canonical_potentials.proofs.Deeper.{joined, walk_bound}

-- one of some numbers is no more than their sum
one_of_sum : (numbers : List ℕ) (k : ℕ) → at numbers k ≤ sum numbers
one_of_sum [] k = omega arith
one_of_sum (first ∷ numbers) zero = omega (arith, sum_by-cons (λ n. n) first numbers)
one_of_sum (first ∷ numbers) (suc k) = omega (arith, sum_by-cons (λ n. n) first numbers, one_of_sum numbers k)

pub free_is : (b : Bool) (cost : ℤ) → free_arc b ≡ Some cost → (b ≡ true) × (cost ≡ pos 0)
free_is true cost e = (refl, sym (same_Some (pos 0) cost e))
free_is false cost e = absurd (none-some cost e)

pub none_there : (at : Option ℕ) → not (is_some at) ≡ true → at ≡ None
none_there None h = refl
none_there (Some i) h = absurd (false≢true h)

module _ (links : Links) (plan : List (Option ℕ)) (potentials : PotentialParts)
    (valid : AreValid links plan potentials) (is : IsPlan links plan) where
  tight : IsTight links potentials plan
  tight = gains_all links plan plan potentials valid is (sym valid.exact)

  height : Node → ℤ
  height root = pos 0 -ℤ pos (sum potentials.u)
  height (left i) = pos (at potentials.u i) -ℤ pos (sum potentials.u)
  height (right j) = (pos 0 -ℤ pos (at potentials.v j)) -ℤ pos (sum potentials.u)

  low : (node : Node) → height node ≤ℤ pos 0
  unfolding height
  low root = omega (arith, ints)
  low (left i) = omega (arith, ints, one_of_sum potentials.u i)
  low (right j) = omega (arith, ints)

  far : (node : Node) → (pos 0 -ℤ pos (total potentials)) ≤ℤ height node
  unfolding height
  far root = omega (arith, ints)
  far (left i) = omega (arith, ints)
  far (right j) = omega (arith, ints, one_of_sum potentials.v j)

  covered_by : (gain : Option ℤ) (most : ℕ) (cost : ℤ) → IfSome gain (λ value. value ≤ℤ pos most)
      → option_map neg_ℤ gain ≡ Some cost → (pos 0 -ℤ cost) ≤ℤ pos most
  covered_by None most cost covered e = absurd (none-some cost e)
  covered_by (Some value) most cost covered e = grind arith

  back_over : (i j : ℕ) (cost : ℤ) (b : Bool) → is_trip j (next plan i) ≡ b → cond b (links.gain i j) None ≡ Some cost
      → cost ≡ pos (at potentials.u i + at potentials.v j)
  back_over i j cost false e f = absurd (none-some cost f)
  back_over i j cost true e f =
      same_Some cost (pos (at potentials.u i + at potentials.v j))
      (sym f ∙ tight.linked i j (is_trip_same j (next plan i) e))

  over : (from to : Node) (cost : ℤ) → arc links plan from to ≡ Some cost → height to ≤ℤ (height from +ℤ cost)
  unfolding height
  over root root cost e = absurd (none-some cost e)
  over root (left i) cost e =
      grind (arith, free_is, nat_lt, is_some, none_there, and_parts, ints, tight)
  over root (right j) cost e = grind arith
  over (left i) root cost e = grind arith
  over (left i) (left k) cost e = absurd (none-some cost e)
  over (left i) (right j) cost e = grind (arith, covered_by, ints)
  over (right j) root cost e = grind (arith, free_is, nat_lt, not-true, and_parts, ints, tight)
  over (right j) (left i) cost e =
      let same = back_over i j cost (is_trip j (next plan i)) refl e in
      omega (arith, ints, same)
  over (right j) (right k) cost e = absurd (none-some cost e)

  pub walk_least : (end : Node) (walk : List Node) (cost : ℤ) → walk_cost links plan end walk ≡ Some cost
      → (pos 0 -ℤ pos (total potentials)) ≤ℤ cost
  walk_least end walk cost e =
      let bound = walk_bound links plan height low over end walk cost e in
      let least = far end in
      omega (arith, ints, bound, least)

-- what links gain together at most
gains_few : (links : Links) → AreLinks links → (from : ℕ) (plan : List (Option ℕ))
    → gains_from links.gain from plan ≤ℤ pos (1000000000000 * length plan)
gains_few links are from [] = omega (arith, ints)
gains_few links are from (None ∷ plan) = grind (
  arith,
  gains_from,
  ints,
  gains_few links are (from +
      1) plan,
)
gains_few links are from (Some j ∷ plan) = grind (
  arith,
  gains_from,
  ints,
  gains_more,
  unwrap_or,
  gains_few links are (from + 1) plan,
)

-- what valid potentials are together at most
pub total_most : (links : Links) (plan : List (Option ℕ)) (potentials : PotentialParts) → AreLinks links
    → IsPlan links plan → AreValid links plan potentials → total potentials ≤ 2000000000000000
total_most links plan potentials are is valid =
    omega (arith, ints, valid.exact, gains_few links are 0 plan, is.each, are.few)

-- a walk over one arc more does not go further
pub arc_most : (links : Links) (plan : List (Option ℕ)) (drops : DropParts) → AreLinks links
    → IsSearched links plan drops → (from to : Node) (cost : ℤ) → arc links plan from to ≡ Some cost
    → (pos (drop_at drops from) -ℤ cost) ≤ℤ pos 2000000000000000
arc_most links plan drops are known from to cost e =
    let before = known.found from in
    let whole = joined (arc links plan from to) (walk_cost links plan from before.0) cost
    (neg_ℤ (pos (drop_at drops from))) e before.1 in
    let least = walk_least links plan known.certified.0 known.certified.1 known.plan_is to (from ∷ before.0)
    (neg_ℤ (pos (drop_at drops from)) +ℤ cost) whole in
    omega (arith, ints, least, total_most links plan known.certified.0 are known.plan_is known.certified.1)

-- by a gain
pub pair_most : (links : Links) (plan : List (Option ℕ)) (drops : DropParts) → AreLinks links
    → IsSearched links plan drops → (i j : ℕ) (gain : ℤ) → links.gain i j ≡ Some gain
    → (pos (get_or drops.left i 0) +ℤ gain) ≤ℤ pos 2000000000000000
pair_most links plan drops are known i j gain e =
    let most : (pos (get_or drops.left i 0) -ℤ neg_ℤ gain) ≤ℤ pos 2000000000000000 =
    arc_most links plan drops are known (left i) (right j) (neg_ℤ gain) (ap (option_map neg_ℤ) e) in
    omega (arith, ints, most)

-- back over a link of the plan
pub back_arc : (links : Links) (plan : List (Option ℕ)) (i j : ℕ) → next plan i ≡ Some j
    → arc links plan (right j) (left i) ≡ links.gain i j
back_arc links plan i j e = ap (λ b. cond b (links.gain i j) None) (same_is_trip j (next plan i) e)

-- each number is small
pub found_most : (links : Links) (plan : List (Option ℕ)) (drops : DropParts) → AreLinks links
    → IsSearched links plan drops → (node : Node) → drop_at drops node ≤ 2000000000000000
found_most links plan drops are known node =
    let walk = known.found node in
    let least = walk_least links plan known.certified.0 known.certified.1 known.plan_is node walk.0
    (neg_ℤ (pos (drop_at drops node))) walk.1 in
    omega (arith, ints, least, total_most links plan known.certified.0 are known.plan_is known.certified.1)
