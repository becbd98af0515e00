-- The lateness of one event more, where each has a planned time and may be an arrival.
use Rattle.plan_num.proofs.Common.{◌≡◌, ℕ, ℤ, ◌+◌, ◌<◌, ◌+ℤ◌, ◌-ℤ◌, pos, Bool, cond, List, length}
use Rattle.plan_num.proofs.Common.{drop, filter, zip, get_or, arith, fold, ints, drop_more}

module _ {X : Type 0} (planned : X → ℕ) (arrives : X → Bool) where
  abbrev late_by : X → ℕ → ℤ
  late_by event time = pos time -ℤ pos (planned event)

  abbrev pub late_in : ℤ → List (X × ℕ) → ℤ
  late_in sum all = fold (λ sum timed. sum +ℤ late_by timed.0 timed.1) sum (filter (λ timed. arrives timed.0) all)

  pub late_more : (events : List X) (times : List ℕ) (i : ℕ) (d : X) → i < length events → i < length times
      → (sum late : ℤ) → late ≡ cond (arrives (get_or events i d)) (late_by (get_or events i d) (get_or times i 0))
      (pos 0)
      → late_in (sum +ℤ late) (zip (drop (i + 1) events) (drop (i + 1) times))
      ≡ late_in sum (zip (drop i events) (drop i times))
  late_more events times i d inside within sum late is = grind (arith, drop_more, get_or, ints)
