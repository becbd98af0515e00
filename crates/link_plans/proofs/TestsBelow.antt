-- Tests on the numbers below one, functions with another value at a place, and gains that are a number.
use Rattle.plan_num.proofs.Common.{◌≡◌, ◌≢◌, ℕ, ℤ, zero, suc, pos, ◌<◌, ◌==◌, ◌&&◌, ◌||◌, Bool}
use Rattle.plan_num.proofs.Common.{true, false, cond, Option, Some, None, refl, ap, sym, arith}
use Rattle.plan_num.proofs.Common.{eq-eqb, int_eq, false≢true, ne_eqb, Decides-int_eq}
use Rattle.link_plans.proofs.Linking.{by_number}
use Rattle.plan_num.proofs.Tests.{both_true, second_true, first_true, not_both}

-- ---- tests on the numbers below one

abbrev pub some_below : (ℕ → Bool) → ℕ → Bool
some_below p zero = false
some_below p (suc n) = p n || some_below p n

pub record IsFound (p : ℕ → Bool) (n : ℕ) : Type 0 where
  pub i : ℕ
  pub within : i < n
  pub passes : p i ≡ true

pub found_below : (p : ℕ → Bool) (n : ℕ) → some_below p n ≡ true → IsFound p n
found_below p zero h = absurd (false≢true h)
found_below p (suc n) h = split (p n) refl h (found_below p n)
  where
    split : (b : Bool) → p n ≡ b → (b || some_below p n) ≡ true
        → (some_below p n ≡ true → IsFound p n) → IsFound p (suc n)
    split true is h rest = record { i = n; within = omega arith; passes = is }
    split false is h rest = grind arith

pub none_below : (p : ℕ → Bool) (n : ℕ) → some_below p n ≡ false → (i : ℕ) → i < n → p i ≡ false
none_below p zero h i within = absurd (omega (arith, within))
none_below p (suc n) h i within = split (p n) refl h (none_below p n)
  where
    split : (b : Bool) → p n ≡ b → (b || some_below p n) ≡ false
        → (some_below p n ≡ false → (i : ℕ) → i < n → p i ≡ false) → p i ≡ false
    split true is h rest = absurd (false≢true (sym h))
    split false is h rest = grind (arith, by_number)

pub by_bool : {P : Type 0} (b : Bool) → (b ≡ true → P) → (b ≡ false → P) → P
by_bool true whole none = whole refl
by_bool false whole none = none refl

-- a function with another value at a place
abbrev pub put : {X : Type 0} → (ℕ → X) → ℕ → X → ℕ → X
put f i x k = cond (k == i) x (f k)

pub put_here : {X : Type 0} (f : ℕ → X) (i : ℕ) (x : X) (k : ℕ) → k ≡ i → put f i x k ≡ x
put_here f i x k e = ap (λ b. cond b x (f k)) (eq-eqb k i e)

pub put_other : {X : Type 0} (f : ℕ → X) (i : ℕ) (x : X) (k : ℕ) → k ≢ i → put f i x k ≡ f k
put_other f i x k ne = ap (λ b. cond b x (f k)) (ne_eqb k i ne)

-- a gain is a number
abbrev pub is_exact : Option ℤ → ℕ → Bool
is_exact None number = false
is_exact (Some gain) number = int_eq gain (pos number)

pub exact_where : (gain : Option ℤ) (number : ℕ) → gain ≡ Some (pos number) → is_exact gain number ≡ true
exact_where gain number e = grind (arith, Decides-int_eq)

pub where_exact : (gain : Option ℤ) (number : ℕ) → is_exact gain number ≡ true → gain ≡ Some (pos number)
where_exact None number h = absurd (false≢true h)
where_exact (Some gain) number h = ap Some ((Decides-int_eq gain (pos number)).0 h)
