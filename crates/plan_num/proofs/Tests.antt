-- Tests that pass or fail, and numbers by their order.
use Rattle.plan_num.proofs.Common.{◌≡◌, ℤ, pos, negsuc, ◌≤ℤ◌, ◌<ℤ◌, Bool, true, false, ◌&&◌, ◌||◌}
use Rattle.plan_num.proofs.Common.{T, refl, ap, sym, subst, ◌∙◌, arith, unsigned_abs, int_cmp}
use Rattle.plan_num.proofs.Common.{int_eq, false≢true, int_ranks, MatchOrdering, Decides-int_eq}
use Rattle.plan_num.proofs.Common.{ints}
use Rattle.std.proofs.Common.{Less}

pub or_false : (b : Bool) → (b || false) ≡ b
or_false true = refl
or_false false = refl

pub or_true : (b : Bool) → (b || true) ≡ true
or_true true = refl
or_true false = refl

pub and_false : (b : Bool) → (b && false) ≡ false
and_false true = refl
and_false false = refl

-- one of two passes where the other one never does, or where it does
pub only_true : (b : Bool) → (b || false) ≡ true → b ≡ true
only_true true e = refl
only_true false e = cc

pub later_true : (a : Bool) {b : Bool} → b ≡ true → (a || b) ≡ true
later_true true e = refl
later_true false e = e

-- both pass
pub both_true : {a b : Bool} → a ≡ true → b ≡ true → (a && b) ≡ true
both_true {a} {b} e f = ap (λ c. c && b) e ∙ f

pub first_true : (a b : Bool) → (a && b) ≡ true → a ≡ true
first_true true b e = refl
first_true false b e = e

pub second_true : (a b : Bool) → (a && b) ≡ true → b ≡ true
second_true true b e = e
second_true false b e = absurd (false≢true e)

pub not_both : {b : Bool} → b ≡ true → b ≡ false → ⊥
not_both e f = false≢true (sym f ∙ e)

-- a test that is shown passes
pub is_true : (b : Bool) → T b → b ≡ true
is_true true shown = refl
is_true false shown = elim shown [ ]

-- two tests that pass alike are one
pub same_tests : (b c : Bool) → (b ≡ true → c ≡ true) → (c ≡ true → b ≡ true) → b ≡ c
same_tests true c to from = sym (to refl)
same_tests false true to from = absurd (false≢true (from refl))
same_tests false false to from = refl

-- ---- numbers

-- a number that is not below 0 is its absolute value
pub number_back : (cell : ℤ) → pos 0 ≤ℤ cell → pos (unsigned_abs cell) ≡ cell
number_back (pos n) h = refl
number_back (negsuc n) h = absurd (omega (arith, ints))

pub less_is : (x y : ℤ) → int_cmp x y ≡ Less → x <ℤ y
less_is x y e = subst (λ o. MatchOrdering o (x <ℤ y) (x ≡ y) (y <ℤ x)) e (int_ranks x y)

-- a number above another one is not that one
pub above_differs : (x y : ℤ) → int_cmp x y ≡ Less → int_eq y x ≡ false
above_differs x y less = grind (arith, int_eq, Decides-int_eq)
