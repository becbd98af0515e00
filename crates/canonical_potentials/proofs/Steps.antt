-- Steps over arcs, as they are made.
use Rattle.plan_num.proofs.Common.{◌≡◌, ℕ, ℤ, pos, neg_ℤ, ◌+◌, ◌*◌, ◌<◌, ◌≤◌, ◌+ℤ◌, ◌≤ℤ◌, ◌&&◌, not}
use Rattle.plan_num.proofs.Common.{is_some, Bool, true, false, List, [], ◌∷◌, suc, length, sum}
use Rattle.plan_num.proofs.Common.{get_or, slice_set, Option, Some, None, IfSome, option_map, refl}
use Rattle.plan_num.proofs.Common.{ap, sym, ◌∙◌, subst, arith, false≢true, lt-ltb, ints}
use Rattle.plan_num.proofs.Common.{sum_by-cons}
use Rattle.link_plans.proofs.Common.{next, is_next, Links, AreLinks, worth, at, worth_is}
use Rattle.canonical_potentials.specs.Drops.{DropParts, depth, IsStep, IsSearched, IsRaised, LinkKept}
use Rattle.canonical_potentials.specs.Residual.{root, left, right, free_arc}
use Rattle.canonical_potentials.proofs.Deeper.{step_root, step_left, step_right}
use Rattle.canonical_potentials.proofs.Shallow.{pair_most, back_arc, found_most}

-- what is known stays known behind a step
pub still_searched : (links : Links) (plan : List (Option ℕ)) (before after : DropParts) (changed : Bool)
    → IsSearched links plan before → IsStep links plan before after changed → IsSearched links plan after
still_searched links plan before after changed known step = grind arith

module _ (links : Links) (plan : List (Option ℕ)) (drops : DropParts) (known : IsSearched links plan drops)
    (i j : ℕ) where
  -- over a link of a row
  pub row_step : (gain : ℕ) → worth (links.gain i j) ≡ Some gain → j < links.count
      → (number : ℕ) → number ≡ get_or drops.left i 0 + gain → get_or drops.right j 0 < number → (after : DropParts)
      → after ≡ record { root = drops.root; left = drops.left; right = slice_set drops.right j number }
      → IsStep links plan drops after true
  row_step gain is within number number_is less after after_is =
      subst (λ some. IsStep links plan drops some true) (sym after_is)
      (step_right links plan drops (left i) (neg_ℤ (pos gain)) number (omega (arith, ints, number_is)) j
      (omega (arith, within, known.over.right)) (ap (option_map neg_ℤ) (worth_is (links.gain i j) gain is)) less)

  -- back over a link
  module _ (linked : next plan i ≡ Some j) where
    pub link_step : i < links.count → (from to number : ℕ) → from ≡ get_or drops.right j 0 → to ≡ get_or drops.left i 0
        → (told : Option ℕ) → is_some (links.gain i j) ≡ true
        → IfSome (links.gain i j) (λ gain. IsRaised from (neg_ℤ gain) to told)
        → told ≡ Some number → (after : DropParts)
        → after ≡ record { root = drops.root; left = slice_set drops.left i number; right = drops.right }
        → IsStep links plan drops after true
    link_step within from to number from_is to_is told there raised is after after_is =
        split (links.gain i j) refl there raised
      where
        split : (at : Option ℤ) → links.gain i j ≡ at → is_some at ≡ true
            → IfSome at (λ gain. IsRaised from (neg_ℤ gain) to told)
            → IsStep links plan drops after true
        split None e some r = absurd (false≢true some)
        split (Some gain) e some r =
            let facts = subst (IsRaised from (neg_ℤ gain) to) is r in
            subst (λ some. IsStep links plan drops some true) (sym after_is)
            (step_left links plan drops (right j) gain number (omega (arith, ints, facts.0, from_is)) i
            (omega (arith, within, known.over.left)) (back_arc links plan i j linked ∙ e)
            (omega (arith, facts.1, to_is)))

    pub link_kept : (from to : ℕ) → from ≡ get_or drops.right j 0 → to ≡ get_or drops.left i 0
        → (told : Option ℕ) → IfSome (links.gain i j) (λ gain. IsRaised from (neg_ℤ gain) to told) → told ≡ None
        → LinkKept links drops i j
    link_kept from to from_is to_is told raised none = split (links.gain i j) raised
      where
        split : (at : Option ℤ) → IfSome at (λ gain. IsRaised from (neg_ℤ gain) to told)
            → IfSome at (λ gain. pos (get_or drops.right j 0) ≤ℤ (pos (get_or drops.left i 0) +ℤ gain))
        split None r = tt
        split (Some gain) r =
            let fact = subst (IsRaised from (neg_ℤ gain) to) none r in
            omega (arith, ints, fact, from_is, to_is)

-- what is asked of numbers over an arc
pub row_asks : (links : Links) (plan : List (Option ℕ)) (drops : DropParts) → AreLinks links
    → IsSearched links plan drops → (i j gain : ℕ) → worth (links.gain i j) ≡ Some gain
    → get_or drops.left i 0 + gain ≤ 2000000000000000
row_asks links plan drops are known i j gain is =
    let most : (pos (get_or drops.left i 0) +ℤ pos gain) ≤ℤ pos 2000000000000000 =
    pair_most links plan drops are known i j (pos gain) (worth_is (links.gain i j) gain is) in
    omega (arith, ints, most)

-- ---- arcs of the root

module _ (links : Links) (plan : List (Option ℕ)) (drops : DropParts) (known : IsSearched links plan drops)
    (i number : ℕ) (after : DropParts) where
  pub back_step : is_some (next plan i) ≡ true → number ≡ get_or drops.left i 0 → drops.root < number
      → after ≡ record { root = number; left = drops.left; right = drops.right } → IsStep links plan drops after true
  back_step linked number_is less after_is = subst (λ some. IsStep links plan drops some true) (sym after_is)
      (step_root links plan drops (left i) (pos 0) number (omega (arith, ints, number_is)) (ap free_arc linked) less)

  pub alone_step : i < links.count → next plan i ≡ None → number ≡ drops.root → get_or drops.left i 0 < number
      → after ≡ record { root = drops.root; left = slice_set drops.left i number; right = drops.right }
      → IsStep links plan drops after true
  alone_step within alone number_is less after_is = subst (λ some. IsStep links plan drops some true) (sym after_is)
      (step_left links plan drops root (pos 0) number (omega (arith, ints, number_is)) i
      (omega (arith, within, known.over.left))
      (ap (λ b. free_arc (b && not (is_some (next plan i)))) (lt-ltb i links.count within)
      ∙ ap (λ at. free_arc (not (is_some at))) alone) less)

  pub from_root_step : i < links.count → is_next plan i ≡ true → number ≡ drops.root → get_or drops.right i 0 < number
      → after ≡ record { root = drops.root; left = drops.left; right = slice_set drops.right i number }
      → IsStep links plan drops after true
  from_root_step within linked number_is less after_is = subst (λ some. IsStep links plan drops some true)
      (sym after_is)
      (step_right links plan drops root (pos 0) number (omega (arith, ints, number_is)) i
      (omega (arith, within, known.over.right))
      (ap free_arc linked) less)

  pub to_root_step : i < links.count → is_next plan i ≡ false → number ≡ get_or drops.right i 0 → drops.root < number
      → after ≡ record { root = number; left = drops.left; right = drops.right } → IsStep links plan drops after true
  to_root_step within alone number_is less after_is = subst (λ some. IsStep links plan drops some true) (sym after_is)
      (step_root links plan drops (right i) (pos 0) number (omega (arith, ints, number_is))
      (ap (λ b. free_arc (b && not (is_next plan i))) (lt-ltb i links.count within)
      ∙ ap (λ b. free_arc (not b)) alone) less)

-- ---- the depth is bounded

pub sum_most : (numbers : List ℕ) (most : ℕ) → ((k : ℕ) → at numbers k ≤ most) → sum numbers ≤ length numbers * most
sum_most [] most each = omega arith
sum_most (first ∷ numbers) most each =
    let rest : sum numbers ≤ length numbers * most = sum_most numbers most (λ k. each (suc k)) in
    let one : suc (length numbers) * most ≡ most + length numbers * most = omega arith in
    omega (arith, sum_by-cons (λ n. n) first numbers, each 0, rest, one)

pub depth_most : (links : Links) (plan : List (Option ℕ)) (drops : DropParts) → AreLinks links
    → IsSearched links plan drops → depth drops ≤ 8002000000000000000
depth_most links plan drops are known =
    let each = found_most links plan drops are known in
    let lefts : sum drops.left ≤ length drops.left * 2000000000000000 = sum_most drops.left 2000000000000000
    (λ k. each (left k)) in
    let rights : sum drops.right ≤ length drops.right * 2000000000000000 =
    sum_most drops.right 2000000000000000 (λ k. each (right k)) in
    omega (arith, lefts, rights, each root, known.over.left, known.over.right, are.few)
