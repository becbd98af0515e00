-- Tests of the numbers below a number.
use Rattle.plan_num.proofs.Common.{◌≡◌, ◌∙◌, inl, inr, ℕ, zero, suc, ◌+◌, ◌-◌, ◌<◌, ◌≤◌, Bool, true}
use Rattle.plan_num.proofs.Common.{false, ◌||◌, refl, ap, sym, arith, cases_Bool, cases_eq}
use Rattle.plan_num.proofs.Common.{cases_lt, false≢true, or_left, or_parts, or_right}
use Rattle.bit_rows.proofs.WordBits.{or_none}
use Rattle.pesp.specs.Marks.{any_below}

-- one that passes
pub passes_below : (test : ℕ → Bool) (n k : ℕ) → k < n → test k ≡ true → any_below test n ≡ true
unfolding any_below
passes_below test zero k low is = absurd (omega (arith, low))
passes_below test (suc n) k low is = elim (cases_eq k n) [
  | inl same ↦ or_right (any_below test n) _ (ap test (sym same) ∙ is)
  | inr other ↦ or_left _ (test n) (passes_below test n k (omega (arith, low, other)) is)
]

pub some_below : (test : ℕ → Bool) (n : ℕ) → any_below test n ≡ true
    → (k : ℕ) × (k < n) × (test k ≡ true)
unfolding any_below
some_below test zero some = absurd (false≢true some)
some_below test (suc n) some = elim (cases_Bool (test n)) [
  | inl is ↦ (n, omega arith, is)
  | inr not ↦ grind (
    arith,
    or_none,
    some_below test n (sym (or_none (any_below test n) (test n)
        not) ∙ some),
  )
]

-- none does
pub none_below : (test : ℕ → Bool) (n k : ℕ) → any_below test n ≡ false → k < n → test k ≡ false
unfolding any_below
none_below test zero k none low = absurd (omega (arith, low))
none_below test (suc n) k none low =
    let parts = or_parts (any_below test n) (test n) none in
    elim (cases_eq k n) [
      | inl same ↦ ap test same ∙ parts.1
      | inr other ↦ none_below test n k parts.0 (omega (arith, low, other))
    ]

pub fails_below : (test : ℕ → Bool) (n : ℕ) → ((k : ℕ) → k < n → test k ≡ false)
    → any_below test n ≡ false
unfolding any_below
fails_below test zero none = refl
fails_below test (suc n) none =
    (λ i. fails_below test n (λ k low. none k (omega (arith, low))) i || none n (omega arith) i)

-- the first ones, and those so many behind them, are all up to there
pub joined_below : (test : ℕ → Bool) (n by : ℕ) → by ≤ n
    → (any_below test n || any_below (λ k. test (by + k)) n) ≡ any_below test (n + by)
joined_below test n by few = elim (cases_Bool (any_below test (n + by))) [
  | inr none ↦
      (λ i. fails_below test n (λ k low. none_below test (n + by) k none (omega (arith, low))) i
      || fails_below (λ k. test (by + k)) n
      (λ k low. none_below test (n + by) (by + k) none (omega (arith, low))) i)
      ∙ sym none
  | inl some ↦
      elim (cases_Bool (any_below test n)) [
        | inl first ↦ or_left _ _ first ∙ sym some
        | inr not_first ↦
            elim (cases_Bool (any_below (λ k. test (by + k)) n)) [
              | inl later ↦ or_right (any_below test n) _ later ∙ sym some
              | inr not_later ↦
                  absurd (false≢true (sym (fails_below test (n + by) (λ k low. neither not_first
                  not_later k low)) ∙ some))
            ]
      ]
]
  where
    neither : any_below test n ≡ false → any_below (λ k. test (by + k)) n ≡ false → (k : ℕ)
        → k < n + by
        → test k ≡ false
    neither first later k low = elim (cases_lt k n) [
      | inl near ↦ none_below test n k first near
      | inr far ↦
          let at : by + (k - by) ≡ k = omega (arith, far, few) in
          ap test (sym at) ∙ none_below (λ k. test (by + k)) n (k - by) later (omega (
            arith,
            low,
            far,
            few,
          ))
    ]

pub any_same : (test other : ℕ → Bool) (n : ℕ) → ((k : ℕ) → test k ≡ other k)
    → any_below test n ≡ any_below other n
any_same test other n same = ap (λ test. any_below test n) (λ i k. same k i)

pub any_one : (test : ℕ → Bool) → any_below test 1 ≡ test 0
unfolding any_below
any_one test = refl
