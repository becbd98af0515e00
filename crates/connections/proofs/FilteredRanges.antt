-- The numbers of a range that pass a test.
use Rattle.plan_num.proofs.Common.{◌≡◌, ◌∙◌, ℕ, zero, suc, ◌+◌, ◌<◌, ◌⊎◌, inl, inr, Bool, true}
use Rattle.plan_num.proofs.Common.{false, cond, List, [], ◌∷◌, ◌++◌, filter, All, sym, ap, subst}
use Rattle.plan_num.proofs.Common.{arith, Contains, ◌↔◌, range_with_len, cases_eq, append-nil}
use Rattle.plan_num.proofs.Common.{map-id, All-contains, All-filter, Contains-append_left}
use Rattle.plan_num.proofs.Common.{Contains-push, filter_passes, get_or-range_with_len}
use Rattle.plan_num.proofs.Common.{length-range_with_len, IsStrictlyIncreasing-filter}
use Rattle.std.proofs.lemmas.List.FromFn.{filter_of_map_range_with_len_more}
use Rattle.connections.specs.Earliest.{is_rising}
use Rattle.connections.proofs.Rising.{rising_from}

module _ (test : ℕ → Bool) where
  more : (i : ℕ) → filter test (range_with_len 0 (i + 1))
      ≡ filter test (range_with_len 0 i) ++ cond (test i) (i ∷ []) []
  more i =
      ap (filter test) (sym (map-id (range_with_len 0 (i + 1))))
      ∙ filter_of_map_range_with_len_more test (λ x. x) 0 i i (omega arith)
      ∙ ap (λ some. filter test some ++ cond (test i) (i ∷ []) []) (map-id (range_with_len 0 i))

  -- one number more, which passes or does not
  pub passes_more : (i : ℕ) (old new : List ℕ) → old ≡ filter test (range_with_len 0 i)
      → new ≡ old ++ i ∷ [] → test i ≡ true → new ≡ filter test (range_with_len 0 (i + 1))
  passes_more i old new told is passes = grind (arith, more)

  pub fails_more : (i : ℕ) (old : List ℕ) → old ≡ filter test (range_with_len 0 i)
      → test i ≡ false → old ≡ filter test (range_with_len 0 (i + 1))
  fails_more i old told fails = grind (arith, append-nil, more)

  -- a number that passes is in the filter of a range
  in_more : (m event : ℕ) → (event < m → Contains (filter test (range_with_len 0 m)) event)
      → event < suc m → test event ≡ true → Contains (filter test (range_with_len 0 (suc m))) event
  in_more m event before low passes =
      let long : m + 1 ≡ suc m = omega arith in
      subst (λ k. Contains (filter test (range_with_len 0 k)) event) long
      (subst (λ some. Contains some event) (sym (more m)) (by (cases_eq event m)))
    where
      by : (event ≡ m) ⊎ (event ≡ m → ⊥)
          → Contains (filter test (range_with_len 0 m) ++ cond (test m) (m ∷ []) []) event
      by (inl same) =
          subst (λ b. Contains (filter test (range_with_len 0 m) ++ cond b (m ∷ []) []) event)
          (sym (ap test (sym same) ∙ passes))
          (subst (Contains (filter test (range_with_len 0 m) ++ m ∷ [])) (sym same)
          (Contains-push (filter test (range_with_len 0 m)) m))
      by (inr other) =
          Contains-append_left (filter test (range_with_len 0 m)) (cond (test m) (m ∷ []) []) event
          (before (omega (arith, low, other)))

  in_range : (n event : ℕ) → event < n → test event ≡ true
      → Contains (filter test (range_with_len 0 n)) event
  in_range zero event low passes = absurd (omega (arith, low))
  in_range (suc m) event low passes =
      in_more m event (λ less. in_range m event less passes) low passes

  range_below : (n : ℕ) → All (λ k. k < n) (range_with_len 0 n)
  range_below n k d inside = grind (arith, length-range_with_len, get_or-range_with_len)

  -- the same, and conversely
  pub in_filter : (n event : ℕ) → Contains (filter test (range_with_len 0 n)) event
      ↔ ((event < n) × (test event ≡ true))
  in_filter n event = (
    λ held. (
      All-contains (λ k. k < n) (filter test (range_with_len 0 n)) event
          (All-filter test (λ k. k < n) (range_with_len 0 n) (range_below n)) held,
      All-contains (λ k. test k ≡ true) (filter test (range_with_len 0 n)) event
          (filter_passes test (range_with_len 0 n)) held,
    ),
    λ both. in_range n event both.0 both.1,
  )

  pub filter_rises : (n : ℕ) → is_rising (filter test (range_with_len 0 n)) ≡ true
  filter_rises n =
      grind (
        arith,
        rising_from,
        IsStrictlyIncreasing-filter,
        length-range_with_len,
        get_or-range_with_len,
      )
