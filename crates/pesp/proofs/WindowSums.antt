-- Sums over a period that is gone through twice, and the windows in which they differ.
use Rattle.plan_num.proofs.Common.{◌≡◌, ◌∙◌, inl, inr, ℕ, zero, suc, ◌+◌, ◌-◌, ◌%◌, ◌<◌, ◌≤◌, ◌==◌}
use Rattle.plan_num.proofs.Common.{cond, Bool, true, false, not, ◌||◌, filter, length, refl, ap}
use Rattle.plan_num.proofs.Common.{sym, arith, range_with_len, mod-add-mod, cases_Bool, eq-eqb}
use Rattle.plan_num.proofs.Common.{ne_eqb, or_right}
use Rattle.std.proofs.Math.Nat.{add-mod_left, mod-eq_of_lt, mod-lt}
use Rattle.pesp.specs.Revising.{count_below, reaches}
use Rattle.pesp.specs.Marks.{any_below}

-- ---- sums

pub count_start : (test : ℕ → Bool) → count_below test 0 ≡ 0
unfolding count_below
count_start test = refl

next : (n : ℕ) → n + 1 ≡ suc n
next n = omega arith

count_step : (test : ℕ → Bool) (n : ℕ)
    → count_below test (n + 1) ≡ count_below test n + cond (test n) 1 0
unfolding count_below
count_step test n = ap (count_below test) (next n)

pub count_more : (test : ℕ → Bool) (n : ℕ) → test n ≡ true
    → count_below test (n + 1) ≡ count_below test n + 1
count_more test n is =
    count_step test n ∙ ap (λ b. count_below test n + cond b 1 0) is

pub count_same : (test : ℕ → Bool) (n : ℕ) → test n ≡ false
    → count_below test (n + 1) ≡ count_below test n
count_same test n is = grind (arith, count_step)

-- ---- windows

module _ (test : ℕ → Bool) (start : ℕ) where
  none_passed : start + 0 ≡ start
  none_passed = omega arith

  one_passed : (n : ℕ) → start + suc n ≡ start + n + 1
  one_passed n = omega arith

  rises : (n : ℕ) → count_below test start ≤ count_below test (start + n)
  rises zero = rw (none_passed) (omega arith)
  rises (suc n) =
      let so = rises n in
      rw (one_passed n) (elim (cases_Bool (test (start + n))) [
        | inl is ↦ let more = count_more test (start + n) is in omega (arith, so, more)
        | inr is ↦ let same = count_same test (start + n) is in omega (arith, so, same)
      ])

  or_none : (x y : Bool) → y ≡ false → x ≡ (x || y)
  or_none true y is = refl
  or_none false y is = sym is

  pub differs : (n : ℕ) → not (count_below test (start + n) == count_below test start)
      ≡ any_below (λ k. test (start + k)) n
  unfolding any_below
  differs zero = ap not (eq-eqb _ _ (ap (count_below test) none_passed))
  differs (suc n) =
      let so = rises n in
      ap (λ end. not (count_below test end == count_below test start)) (one_passed n)
      ∙ elim (cases_Bool (test (start + n))) [
        | inl is ↦ grind (arith, count_more, ne_eqb, or_right)
        | inr is ↦ grind (arith, count_same, or_none, differs n)
      ]

-- ---- sums of a period that is gone through again

module _ (period : ℕ) (left : ℕ → Bool) where
  abbrev shown : ℕ → Bool
  shown time = left (time % period)

  again : (k : ℕ) → count_below shown (period + k) ≡ count_below shown period + count_below shown k
  again zero = grind (arith, count_start)
  again (suc k) =
      let rest = again k in
      let next : period + suc k ≡ period + k + 1 = omega arith in
      let own : suc k ≡ k + 1 = omega arith in
      let same : shown (period + k) ≡ shown k = ap left (add-mod_left period k) in
      ap (count_below shown) next
      ∙ elim (cases_Bool (shown k)) [
        | inl is ↦
            let far = count_more shown (period + k) (same ∙ is) in
            let near = ap (count_below shown) own ∙ count_more shown k is in
            omega (arith, rest, far, near)
        | inr is ↦
            let far = count_same shown (period + k) (same ∙ is) in
            let near = ap (count_below shown) own ∙ count_same shown k is in
            omega (arith, rest, far, near)
      ]

  -- ---- where more times are left than lie outside of a window, each window has one

  slow : (from n : ℕ) → count_below shown (from + n) ≤ count_below shown from + n
  slow from zero = grind arith
  slow from (suc n) =
      let rest = slow from n in
      let next : from + suc n ≡ from + n + 1 = omega arith in grind (
        arith,
        next,
        cases_Bool,
        count_more,
        count_same,
      )

  all_counted : (from n : ℕ) → from + n ≤ period
      → count_below shown from + length (filter left (range_with_len from n)) ≡ count_below shown
      (from + n)
  all_counted from zero few = grind arith
  all_counted from (suc n) few = grind (
    arith,
    next,
    mod-eq_of_lt,
    cases_Bool,
    count_more,
    count_same,
    all_counted (from + 1) n (omega (arith, few)),
  )

  pub crowded : (width : ℕ) → 1 ≤ period → width < period
      → period ≤ length (filter left (range_with_len 0 period)) + width → (offset time : ℕ)
      → reaches period left offset width time ≡ true
  crowded width some narrow many offset time =
      let start = (time + offset) % period in
      let within : start < period = mod-lt (time + offset) (omega (arith, some)) in
      let counted = all_counted 0 period (omega arith) in
      let first = count_start shown in
      let none : 0 + period ≡ period = omega arith in
      let whole = ap (count_below shown) none in
      let round = again start in
      let slowly = slow (start + (width + 1)) (period - (width + 1)) in
      let last : start + (width + 1) + (period - (width + 1)) ≡ period + start = omega (
        arith,
        narrow,
      ) in
      let ends = ap (count_below shown) last in
      sym (ap (λ test. any_below test (width + 1)) (λ i k. left (shift k i)))
      ∙ sym (differs shown start (width + 1))
      ∙ ap not (ne_eqb (count_below shown (start + (width + 1))) (count_below shown start)
      (λ same. absurd (omega (
        arith,
        same,
        counted,
        first,
        whole,
        round,
        slowly,
        ends,
        many,
        narrow,
      ))))
    where
      shift : (k : ℕ) → ((time + offset) % period + k) % period ≡ (time + offset + k) % period
      shift k = mod-add-mod (time + offset) period k
