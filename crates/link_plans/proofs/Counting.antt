-- How many numbers pass a test.
use Rattle.plan_num.proofs.Common.{◌≡◌, ◌≢◌, ℕ, zero, suc, ◌+◌, ◌<◌, ◌≤◌, ◌==◌, ◌||◌, Bool, true}
use Rattle.plan_num.proofs.Common.{false, not, cond, length, filter, refl, ap, arith}
use Rattle.plan_num.proofs.Common.{range_with_len, eq-eqb, ne_eqb}
use Rattle.link_plans.proofs.Linking.{by_number}

-- one or none
abbrev pub one_if : Bool → ℕ
one_if b = cond b 1 0

-- how many numbers pass a test, out of so many from one on
abbrev pub count : (ℕ → Bool) → ℕ → ℕ → ℕ
count p from n = length (filter p (range_with_len from n))

pub count_next : (p : ℕ → Bool) (from n : ℕ)
    → count p from (suc n) ≡ one_if (p from) + count p (from + 1) n
count_next p from n = grind arith

same_count : (p q : ℕ → Bool) (from n : ℕ) → ((k : ℕ) → from ≤ k → p k ≡ q k)
    → count p from n ≡ count q from n
same_count p q from zero same = refl
same_count p q from (suc n) same = grind (
  arith,
  count_next,
  same_count p q (from + 1) n (λ k h.
      same k (omega (arith, h))),
)

pub all_count : (p : ℕ → Bool) (from n : ℕ) → ((k : ℕ) → p k ≡ true) → count p from n ≡ n
all_count p from zero all = refl
all_count p from (suc n) all = grind (arith, count_next, all_count p (from + 1) n all)

-- a test that one number fails that passed another one
abbrev pub but_one : (ℕ → Bool) → ℕ → ℕ → Bool
but_one q taken k = not ((k == taken) || q k)

other_than : (q : ℕ → Bool) (taken k : ℕ) → k ≢ taken → but_one q taken k ≡ not (q k)
other_than q taken k ne = ap (λ b. not (b || q k)) (ne_eqb k taken ne)

taken_out : (q : ℕ → Bool) (taken k : ℕ) → k ≡ taken → but_one q taken k ≡ false
taken_out q taken k e = ap (λ b. not (b || q k)) (eq-eqb k taken e)

pub one_less : (q : ℕ → Bool) (taken from n : ℕ) → from ≤ taken → taken < from + n → q taken ≡ false
    → count (but_one q taken) from n + 1 ≡ count (λ k. not (q k)) from n
one_less q taken from zero low high free = absurd (omega (arith, low, high))
one_less q taken from (suc n) low high free = by_number from taken
    (λ is.
    let first : one_if (but_one q taken from) ≡ 0 = ap one_if (taken_out q taken from is) in grind
    (arith, same_count, other_than, count_next))
    (λ ne.
    let first : one_if (but_one q taken from) ≡ one_if (not (q from)) = ap one_if (other_than q taken from ne) in
    grind (
      arith,
      count_next,
      one_less q taken (from + 1) n (omega (arith, low, ne)) (omega
          (arith, high)) free,
    ))

pub count_most : (p : ℕ → Bool) (from n : ℕ) → count p from n ≤ n
count_most p from zero = omega arith
count_most p from (suc n) = grind (arith, count_next, count_most p (from + 1) n)
