-- What a plan gains against numbers that cover its links: never more than all of them, and as much
-- exactly where it is tight.
use Rattle.plan_num.proofs.Common.{◌≡◌, ◌≢◌, ℕ, ℤ, zero, suc, pos, ◌+◌, ◌<◌, ◌+ℤ◌, ◌≤ℤ◌, ◌==◌}
use Rattle.plan_num.proofs.Common.{eq-eqb, false, List, [], ◌∷◌, length, sum, set, Option, Some}
use Rattle.plan_num.proofs.Common.{None, unwrap_or, refl, ap, sym, ◌∙◌, subst, arith, or_parts}
use Rattle.plan_num.proofs.Common.{ne_eqb, false≢true, ints, get_or-set_other, sum_by-cons}
use Rattle.plan_num.proofs.Common.{none-some, same_Some}
use Rattle.link_plans.specs.Plans.{next, is_next}
use Rattle.link_plans.proofs.Linking.{by_number}
use Rattle.link_plans.proofs.Totals.{gains_from, gains_more}
use Rattle.link_plans.specs.Potentials.{at}

-- ---- sums

sum_more : (first : ℕ) (numbers : List ℕ) → sum (first ∷ numbers) ≡ first + sum numbers
sum_more first numbers = sum_by-cons (λ n. n) first numbers

-- a sum without one of its numbers
sum_without : (numbers : List ℕ) (k : ℕ) → sum numbers ≡ at numbers k + sum (set numbers k 0)
sum_without [] k = omega arith
sum_without (first ∷ numbers) zero = omega (arith, sum_more first numbers, sum_more 0 numbers)
sum_without (first ∷ numbers) (suc k) = grind (arith, sum_more, sum_without numbers k)

-- numbers whose sum is 0 are 0
all_zero : (numbers : List ℕ) → sum numbers ≡ 0 → (k : ℕ) → at numbers k ≡ 0
all_zero [] none k = refl
all_zero (first ∷ numbers) none zero = omega (arith, sum_more first numbers, none)
all_zero (first ∷ numbers) none (suc k) =
    all_zero numbers (omega (arith, sum_more first numbers, none)) k

sum_zero : (numbers : List ℕ) → ((k : ℕ) → at numbers k ≡ 0) → sum numbers ≡ 0
sum_zero [] each = refl
sum_zero (first ∷ numbers) each =
    omega (arith, sum_more first numbers, each 0, sum_zero numbers (λ k. each (suc k)))

-- a number that was set to 0
set_zero : (numbers : List ℕ) (j k : ℕ) → at numbers k ≡ 0 → at (set numbers j 0) k ≡ 0
set_zero [] j k none = none
set_zero (first ∷ numbers) zero zero none = refl
set_zero (first ∷ numbers) zero (suc k) none = none
set_zero (first ∷ numbers) (suc j) zero none = none
set_zero (first ∷ numbers) (suc j) (suc k) none = set_zero numbers j k none

set_itself : (numbers : List ℕ) (j : ℕ) → at (set numbers j 0) j ≡ 0
set_itself [] j = refl
set_itself (first ∷ numbers) zero = refl
set_itself (first ∷ numbers) (suc j) = set_itself numbers j

-- ---- numbers that cover links

module _ (gain : ℕ → ℕ → Option ℤ) where
  -- what a link gains, or 0
  abbrev gain_at : ℕ → ℕ → ℤ
  gain_at i j = unwrap_or (gain i j) (pos 0)

  -- numbers for trips from one on: there is one for each, no trip follows two, and they cover the links
  pub record AreCovering (n : ℕ) (plan : List (Option ℕ)) (u v : List ℕ) : Type 0 where
    pub size : length u ≡ length plan
    pub once : (k other j : ℕ) → next plan k ≡ Some j → next plan other ≡ Some j → k ≡ other
    pub covered : (k j : ℕ) → next plan k ≡ Some j → gain_at (n + k) j ≤ℤ pos (at u k + at v j)

  -- they are tight
  pub record AreTight (n : ℕ) (plan : List (Option ℕ)) (u v : List ℕ) : Type 0 where
    pub linked : (k j : ℕ) → next plan k ≡ Some j → gain_at (n + k) j ≡ pos (at u k + at v j)
    pub last : (k : ℕ) → k < length plan → next plan k ≡ None → at u k ≡ 0
    pub first : (j : ℕ) → is_next plan j ≡ false → at v j ≡ 0

  moved : (n k : ℕ) → n + suc k ≡ (n + 1) + k
  moved n k = omega arith

  plain : (n : ℕ) → n + 0 ≡ n
  plain n = omega arith

  -- numbers for the rest, where the first trip has no successor
  rest_alone : (n : ℕ) (plan : List (Option ℕ)) (first : ℕ) (u v : List ℕ)
      → AreCovering n (None ∷ plan) (first ∷ u) v → AreCovering (n + 1) plan u v
  rest_alone n plan first u v are = record {
    size = omega (arith, are.size);
    once = λ k other j e f. omega (arith, are.once (suc k) (suc other) j e f);
    covered = λ k j e. subst (λ i. gain_at i j ≤ℤ pos (at u k + at v j)) (moved n k) (are.covered (suc k) j e);
  }

  -- or has one, whose number is then used up
  module _ (n j : ℕ) (plan : List (Option ℕ)) (first : ℕ) (u v : List ℕ)
      (are : AreCovering n (Some j ∷ plan) (first ∷ u) v) where
    apart : (k i : ℕ) → next plan k ≡ Some i → i ≢ j
    apart k i e same = zero_suc (are.once (suc k) 0 i e (ap Some (sym same)))
      where
        zero_suc : suc k ≡ 0 → ⊥
        zero_suc h = omega (arith, h)

    stays : (k i : ℕ) → next plan k ≡ Some i → at (set v j 0) i ≡ at v i
    stays k i e = get_or-set_other v j i 0 0 (apart k i e)

    rest_linked : AreCovering (n + 1) plan u (set v j 0)
    rest_linked = record {
      size = omega (arith, are.size);
      once = λ k other i e f. omega (arith, are.once (suc k) (suc other) i e f);
      covered = λ k i e. subst (λ x. gain_at (n + 1 + k) i ≤ℤ pos (at u k + x)) (sym (stays k i e))
          (subst (λ at_k. gain_at at_k i ≤ℤ pos (at u k + at v i)) (moved n k) (are.covered (suc k) i e));
    }

    own : gain_at n j ≤ℤ pos (first + at v j)
    own = subst (λ i. gain_at i j ≤ℤ pos (first + at v j)) (plain n) (are.covered 0 j refl)

  -- no plan gains more
  pub at_most : (n : ℕ) (plan : List (Option ℕ)) (u v : List ℕ) → AreCovering n plan u v
      → gains_from gain n plan ≤ℤ pos (sum u + sum v)
  at_most n [] u v are = omega (arith, ints)
  at_most n (next_trip ∷ plan) [] v are = absurd (omega (arith, are.size))
  at_most n (None ∷ plan) (first ∷ u) v are =
      grind (
        arith,
        gains_from,
        rest_alone,
        ints,
        sum_more,
        at_most (n + 1) plan u v (rest_alone n plan first u v are),
      )
  at_most n (Some j ∷ plan) (first ∷ u) v are =
      let rest : gains_from gain (n + 1) plan ≤ℤ pos (sum u + sum (set v j 0)) =
      at_most (n + 1) plan u (set v j 0) (rest_linked n j plan first u v are) in
      let one : gain_at n j ≤ℤ pos (first + at v j) = own n j plan first u v are in
      let both : gains_from gain n (Some j ∷ plan) ≡ gain_at n j +ℤ gains_from gain (n + 1) plan =
      gains_more gain n j plan in
      omega (arith, ints, sum_more first u, sum_without v j, rest, one, both)

  -- a plan that gains as much is tight
  pub then_tight : (n : ℕ) (plan : List (Option ℕ)) (u v : List ℕ) → AreCovering n plan u v
      → gains_from gain n plan ≡ pos (sum u + sum v) → AreTight n plan u v
  then_tight n [] [] v are all = grind (arith, none-some, all_zero, ints)
  then_tight n [] (first ∷ u) v are all = absurd (omega (arith, are.size))
  then_tight n (next_trip ∷ plan) [] v are all = absurd (omega (arith, are.size))
  then_tight n (None ∷ plan) (first ∷ u) v are all =
      let most : gains_from gain (n + 1) plan ≤ℤ pos (sum u + sum v) =
      at_most (n + 1) plan u v (rest_alone n plan first u v are) in
      let own_zero : first ≡ 0 = omega (arith, ints, sum_more first u, most, all) in
      let rest : AreTight (n + 1) plan u v = then_tight (n + 1) plan u v (rest_alone n plan first u v are)
      (omega (arith, ints, sum_more first u, own_zero, all)) in
      record {
        linked = λ k j e. linked_at rest k j e;
        last = λ k h e. last_at own_zero rest k h e;
        first = λ j h. rest.first j h;
      }
    where
      linked_at : AreTight (n + 1) plan u v → (k j : ℕ) → next (None ∷ plan) k ≡ Some j
          → gain_at (n + k) j ≡ pos (at (first ∷ u) k + at v j)
      linked_at rest zero j e = absurd (none-some j e)
      linked_at rest (suc k) j e = ap (λ i. gain_at i j) (moved n k) ∙ rest.linked k j e

      last_at : first ≡ 0 → AreTight (n + 1) plan u v → (k : ℕ) → k < suc (length plan)
          → next (None ∷ plan) k ≡ None → at (first ∷ u) k ≡ 0
      last_at own_zero rest zero h e = own_zero
      last_at own_zero rest (suc k) h e = rest.last k (omega (arith, h)) e
  then_tight n (Some j ∷ plan) (first ∷ u) v are all =
      let most : gains_from gain (n + 1) plan ≤ℤ pos (sum u + sum (set v j 0)) =
      at_most (n + 1) plan u (set v j 0) (rest_linked n j plan first u v are) in
      let one : gain_at n j ≤ℤ pos (first + at v j) = own n j plan first u v are in
      let both : gains_from gain n (Some j ∷ plan) ≡ gain_at n j +ℤ gains_from gain (n + 1) plan =
      gains_more gain n j plan in
      let exact : gain_at n j ≡ pos (first + at v j) =
      omega (arith, ints, sum_more first u, sum_without v j, most, one, both, all) in
      let rest : AreTight (n + 1) plan u (set v j 0) = then_tight (n + 1) plan u (set v j 0)
      (rest_linked n j plan first u v are)
      (omega (arith, ints, sum_more first u, sum_without v j, exact, both, all)) in
      record {
        linked = λ k i e. linked_at exact rest k i e;
        last = λ k h e. last_at rest k h e;
        first = λ i h.
            let parts = or_parts _ (is_next plan i) h in
            first_at rest i (λ same. not_itself parts.0 same) parts.1;
      }
    where
      linked_at : gain_at n j ≡ pos (first + at v j) → AreTight (n + 1) plan u (set v j 0) → (k i : ℕ)
          → next (Some j ∷ plan) k ≡ Some i → gain_at (n + k) i ≡ pos (at (first ∷ u) k + at v i)
      linked_at exact rest zero i e = grind (arith, same_Some, plain)
      linked_at exact rest (suc k) i e = ap (λ x. gain_at x i) (moved n k) ∙ rest.linked k i e
          ∙ ap (λ x. pos (at u k + x)) (stays n j plan first u v are k i e)

      last_at : AreTight (n + 1) plan u (set v j 0) → (k : ℕ) → k < suc (length plan)
          → next (Some j ∷ plan) k ≡ None → at (first ∷ u) k ≡ 0
      last_at rest zero h e = absurd (none-some j (sym e))
      last_at rest (suc k) h e = rest.last k (omega (arith, h)) e

      not_itself : {i : ℕ} → (i == j) ≡ false → i ≡ j → ⊥
      not_itself {i} h same = false≢true (sym h ∙ eq-eqb i j same)

      first_at : AreTight (n + 1) plan u (set v j 0) → (i : ℕ) → i ≢ j → is_next plan i ≡ false → at v i ≡ 0
      first_at rest i other h = sym (get_or-set_other v j i 0 0 other) ∙ rest.first i h

  -- a tight plan gains as much
  pub tight_gains : (n : ℕ) (plan : List (Option ℕ)) (u v : List ℕ) → AreCovering n plan u v
      → AreTight n plan u v → gains_from gain n plan ≡ pos (sum u + sum v)
  tight_gains n [] [] v are tight = omega (arith, ints, sum_zero v (λ k. tight.first k refl))
  tight_gains n [] (first ∷ u) v are tight = absurd (omega (arith, are.size))
  tight_gains n (next_trip ∷ plan) [] v are tight = absurd (omega (arith, are.size))
  tight_gains n (None ∷ plan) (first ∷ u) v are tight =
      let rest : gains_from gain (n + 1) plan ≡ pos (sum u + sum v) =
      tight_gains (n + 1) plan u v (rest_alone n plan first u v are) (record {
        linked = λ k j e. sym (ap (λ i. gain_at i j) (moved n k)) ∙ tight.linked (suc k) j e;
        last = λ k h e. tight.last (suc k) (omega (arith, h)) e;
        first = λ j h. tight.first j h;
      }) in
      let own_zero : first ≡ 0 = tight.last 0 (omega arith) refl in grind (arith, ints, sum_more)
  tight_gains n (Some j ∷ plan) (first ∷ u) v are tight =
      let rest : gains_from gain (n + 1) plan ≡ pos (sum u + sum (set v j 0)) =
      tight_gains (n + 1) plan u (set v j 0) (rest_linked n j plan first u v are) (record {
        linked = λ k i e. sym (ap (λ x. gain_at x i) (moved n k)) ∙ tight.linked (suc k) i e
            ∙ sym (ap (λ x. pos (at u k + x)) (stays n j plan first u v are k i e));
        last = λ k h e. tight.last (suc k) (omega (arith, h)) e;
        first = λ i h. grind (arith, by_number, set_itself, set_zero, ne_eqb);
      }) in
      let exact : gain_at n j ≡ pos (first + at v j) =
      ap (λ x. gain_at x j) (sym (plain n)) ∙ tight.linked 0 j refl in
      let both : gains_from gain n (Some j ∷ plan) ≡ gain_at n j +ℤ gains_from gain (n + 1) plan =
      gains_more gain n j plan in grind (arith, ints, sum_more, sum_without)
