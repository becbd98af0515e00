-- Marks at the heads of items tell which events some item marks.
use Rattle.plan_num.proofs.Common.{◌≡◌, ◌∙◌, ℕ, zero, suc, ◌+◌, ◌<◌, ◌≤◌, ◌==◌, ◌&&◌, ◌||◌, Bool}
use Rattle.plan_num.proofs.Common.{true, false, cond, List, [], ◌∷◌, length, map, filter, get_or}
use Rattle.plan_num.proofs.Common.{All, refl, ap, sym, arith, list_any, range_with_len, eq-eqb}
use Rattle.plan_num.proofs.Common.{ne_eqb, length-set, All-head, All-tail}
use Rattle.plan_num.proofs.Common.{get_or-map-range_with_len, length-map-range_with_len}
use Rattle.propagation.specs.Marks.{marked_by, with_mark}
use Rattle.bit_rows.proofs.Places.{told_anew}
use Rattle.plan_num.proofs.Tests.{or_false}

pub or_assoc : (a b c : Bool) → ((a || b) || c) ≡ (a || (b || c))
or_assoc true b c = refl
or_assoc false b c = refl

pub filter_alike : (p q : ℕ → Bool) (a n : ℕ) → ((e : ℕ) → a ≤ e → e < a + n → p e ≡ q e)
    → filter p (range_with_len a n) ≡ filter q (range_with_len a n)
filter_alike p q a zero same = refl
filter_alike p q a (suc n) same =
    let rest = filter_alike p q (a + 1) n (λ e low high. same e (omega (arith, low)) (omega (arith, high))) in
    λ i. cond (same a (omega arith) (omega arith) i) (a ∷ rest i) (rest i)

-- marks that tell of each event what a test does
pub filter_marks : (by : Bool → Bool) (test : ℕ → Bool) (n : ℕ) (marks : List Bool)
    → marks ≡ map test (range_with_len 0 n)
    → filter (λ event. by (get_or marks event false)) (range_with_len 0 (length marks))
    ≡ filter (λ event. by (test event)) (range_with_len 0 n)
filter_marks by test n marks are =
    grind (arith, length-map-range_with_len, get_or, filter_alike, get_or-map-range_with_len)

module _ {X : Type 0} (head : X → ℕ) (test : X → Bool) where
  pub marked_length : (items : List X) (marks : List Bool) → length (marked_by head test marks items) ≡ length marks
  marked_length [] marks = refl
  marked_length (x ∷ items) marks =
      grind (arith, length-set, get_or, marked_length items (with_mark marks (head x) (test x)))

  abbrev some_mark : List X → ℕ → Bool
  some_mark items event = list_any (λ x. (head x == event) && test x) items

  one_marked : (base : ℕ → Bool) (n : ℕ) (x : X) → head x < n
      → with_mark (map base (range_with_len 0 n)) (head x) (test x)
      ≡ map (λ event. base event || ((head x == event) && test x)) (range_with_len 0 n)
  one_marked base n x inside =
      grind (arith, told_anew, get_or, eq-eqb, get_or-map-range_with_len, ne_eqb, or_false)

  pub any_told : (items : List X) (base : ℕ → Bool) (n : ℕ) → All (λ x. head x < n) items
      → marked_by head test (map base (range_with_len 0 n)) items
      ≡ map (λ event. base event || some_mark items event) (range_with_len 0 n)
  any_told [] base n there = λ i. map (λ event. sym (or_false (base event)) i) (range_with_len 0 n)
  any_told (x ∷ items) base n there =
      ap (λ marks. marked_by head test marks items) (one_marked base n x (All-head (λ x. head x < n) x items there))
      ∙ any_told items (λ event. base event || ((head x == event) && test x)) n
      (All-tail (λ x. head x < n) x items there)
      ∙ (λ i. map (λ event. or_assoc (base event) ((head x == event) && test x) (some_mark items event) i)
      (range_with_len 0 n))
