-- The links of vehicles make the plan of the vehicles.
use Rattle.plan_num.proofs.Common.{◌≡◌, ◌≢◌, ℕ, zero, suc, ◌+◌, ◌<◌, ◌≤◌, ◌==◌, ◌||◌, nat_eq, Bool}
use Rattle.plan_num.proofs.Common.{true, false, cond, List, [], ◌∷◌, ◌++◌, length, filter}
use Rattle.plan_num.proofs.Common.{slice_get, All, Some, refl, ap, sym, ◌∙◌, arith, eq-eqb}
use Rattle.plan_num.proofs.Common.{list_all, range_with_len, false≢true, ne_eqb, eqb-true}
use Rattle.plan_num.proofs.Common.{and_parts, or_parts, All-nil, All-cons, All-head, All-tail}
use Rattle.plan_num.proofs.Common.{none-some, same_Some}
use Rattle.vehicle_model.specs.DrivenSchedules.{AreEachOnce}
use Rattle.vehicle_model.proofs.DrivenForms.{AreFresh}
use Rattle.link_plans.proofs.Common.{by_number}
use Rattle.vehicle_model.proofs.Tours.{has, all_in_range}
use Rattle.plan_num.proofs.Tests.{later_true, not_both}

-- ---- each trip once

-- how often a number stands in a list
abbrev times : ℕ → List ℕ → ℕ
times i numbers = length (filter (nat_eq i) numbers)

times_more : (i j : ℕ) (more : List ℕ) → times i (j ∷ more) ≡ cond (i == j) 1 0 + times i more
times_more i j more = grind (arith, nat_eq)

counted : (b s : Bool) (t : ℕ) → t ≡ cond (b || s) 0 1 → (b ≡ true → s ≡ false) → cond b 1 0 + t ≡ cond s 0 1
counted true true t e h = absurd (false≢true (sym (h refl)))
counted true false t e h = omega (arith, e)
counted false s t e h = omega (arith, e)

counted_back : (b s : Bool) (t : ℕ) → cond b 1 0 + t ≡ cond s 0 1 → t ≡ cond (b || s) 0 1
counted_back true true t e = omega (arith, e)
counted_back true false t e = omega (arith, e)
counted_back false s t e = omega (arith, e)

all_at : (p : ℕ → Bool) (from k : ℕ) → list_all p (range_with_len from k) ≡ true
    → (i : ℕ) → from ≤ i → i < from + k → p i ≡ true
all_at p from zero h i low high = absurd (omega (arith, low, high))
all_at p from (suc k) h i low high =
    let parts = and_parts (p from) (list_all p (range_with_len (from + 1) k)) h in
    by_number i from (λ same. ap p same ∙ parts.0)
    (λ apart. all_at p (from + 1) k parts.1 i (omega (arith, low, apart)) (omega (arith, high)))

pub fresh_once : (n : ℕ) (numbers seen : List ℕ) → AreFresh n seen numbers
    → All (λ i. i < n) numbers × ((i : ℕ) → i < n → times i numbers ≡ cond (has seen i) 0 1)
fresh_once n [] seen all = (
  All-nil (λ i. i < n),
  λ i within. ap (λ b. cond b 0 1) (sym (all_at (has seen) 0 n all i (omega arith) (omega (arith, within)))),
)
fresh_once n (j ∷ more) seen fresh = grind (
  arith,
  All-cons,
  times_more,
  counted,
  has,
  eqb-true,
  fresh_once n more (j ∷ seen) fresh.2,
)

pub once_fresh : (n : ℕ) (numbers seen : List ℕ) → All (λ i. i < n) numbers
    → ((i : ℕ) → i < n → times i numbers ≡ cond (has seen i) 0 1) → AreFresh n seen numbers
once_fresh n [] seen below once = grind (arith, all_in_range, has)
once_fresh n (j ∷ more) seen below once = grind (
  arith,
  All-head,
  has,
  times_more,
  eq-eqb,
  All-tail,
  counted_back,
  once_fresh n more (j ∷ seen) (All-tail (λ i. i < n) j more below) (λ i inside.
      counted_back (i == j) (has seen i) (times i more) (sym (times_more i j more) ∙ once i inside)),
)

pub each_once : (n : ℕ) (numbers : List ℕ) → AreFresh n [] numbers → AreEachOnce n numbers
each_once n numbers fresh = grind (arith, fresh_once)

pub all_fresh : (n : ℕ) (numbers : List ℕ) → AreEachOnce n numbers → AreFresh n [] numbers
all_fresh n numbers are = once_fresh n numbers [] are.below are.once

-- ---- what was seen does not come again

pub has_more : (seen : List ℕ) (j p : ℕ) → has seen p ≡ true → has (j ∷ seen) p ≡ true
has_more seen j p h = later_true (p == j) h

pub has_first : (seen : List ℕ) (j : ℕ) → has (j ∷ seen) j ≡ true
has_first seen j = ap (λ b. b || has seen j) (eq-eqb j j refl)

-- a number that is not among some is none of them
pub apart_from : (j p : ℕ) (more : List ℕ) → has (j ∷ more) p ≡ false → (p ≢ j) × (has more p ≡ false)
apart_from j p more h = grind (arith, or_parts, has, not_both, eq-eqb)

pub seen_apart : (n : ℕ) (numbers seen : List ℕ) (p : ℕ) → AreFresh n seen numbers → has seen p ≡ true
    → has numbers p ≡ false
seen_apart n [] seen p fresh h = refl
seen_apart n (j ∷ more) seen p fresh h = grind (
  arith,
  has,
  ne_eqb,
  not_both,
  has_more,
  seen_apart n
      more (j ∷ seen) p fresh.2 (has_more seen j p h),
)

pub front_apart : (xs ys : List ℕ) (p : ℕ) → has (xs ++ ys) p ≡ false → has xs p ≡ false
front_apart [] ys p h = refl
front_apart (x ∷ xs) ys p h =
    let parts = or_parts (p == x) (has (xs ++ ys) p) h in
    ap (λ b. b || has xs p) parts.0 ∙ front_apart xs ys p parts.1

-- all that were seen behind some more
abbrev pub after : List ℕ → List ℕ → List ℕ
after seen [] = seen
after seen (i ∷ more) = after (i ∷ seen) more

pub fresh_after : (n : ℕ) (xs ys seen : List ℕ) → AreFresh n seen (xs ++ ys) → AreFresh n (after seen xs) ys
fresh_after n [] ys seen fresh = fresh
fresh_after n (x ∷ xs) ys seen fresh = fresh_after n xs ys (x ∷ seen) fresh.2

pub after_none : (xs seen : List ℕ) (p : ℕ) → has (after seen xs) p ≡ false
    → (has seen p ≡ false) × (has xs p ≡ false)
after_none [] seen p h = (h, refl)
after_none (x ∷ xs) seen p h = grind (arith, or_parts, has, after_none xs (x ∷ seen) p h)

pub after_seen : (xs seen : List ℕ) (p : ℕ) → has seen p ≡ true → has (after seen xs) p ≡ true
after_seen [] seen p h = h
after_seen (x ∷ xs) seen p h = after_seen xs (x ∷ seen) p (has_more seen x p h)

pub after_at : (xs seen : List ℕ) (k p : ℕ) → slice_get xs k ≡ Some p → has (after seen xs) p ≡ true
after_at [] seen k p e = absurd (none-some p e)
after_at (x ∷ xs) seen zero p e = grind (arith, after_seen, has, same_Some, has_first)
after_at (x ∷ xs) seen (suc k) p e = after_at xs (x ∷ seen) k p e
