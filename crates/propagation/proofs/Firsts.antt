-- The first of so many numbers that pass a test.
use Rattle.plan_num.proofs.Common.{◌≡◌, ◌∙◌, ℕ, ◌+◌, ◌-◌, ◌<◌, ◌≤◌, Bool, true, false, cond, List}
use Rattle.plan_num.proofs.Common.{[], ◌∷◌, filter, slice_get, Some, ap, arith, range_with_len}

module _ (test : ℕ → Bool) (n i : ℕ) where
  abbrev left_from : ℕ → List ℕ
  left_from i = filter test (range_with_len i (n - i))

  step : i < n → left_from i ≡ cond (test i) (i ∷ left_from (i + 1)) (left_from (i + 1))
  step inside = grind arith

  pub first_passes : i < n → test i ≡ true → slice_get (left_from i) 0 ≡ Some i
  first_passes inside is =
      ap (λ some. slice_get some 0) (step inside ∙ ap (λ b. cond b (i ∷ left_from (i + 1)) (left_from (i + 1))) is)

  pub first_fails : i < n → test i ≡ false → left_from i ≡ left_from (i + 1)
  first_fails inside is = step inside ∙ ap (λ b. cond b (i ∷ left_from (i + 1)) (left_from (i + 1))) is

  pub none_left : n ≤ i → left_from i ≡ []
  none_left past = let none : n - i ≡ 0 = omega (arith, past) in ap (λ k. filter test (range_with_len i k)) none

pub all_left : (test : ℕ → Bool) (n : ℕ) → filter test (range_with_len 0 n) ≡ filter test (range_with_len 0 (n - 0))
all_left test n = let same : n ≡ n - 0 = omega arith in ap (λ k. filter test (range_with_len 0 k)) same
