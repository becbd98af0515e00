-- The test of an activity tells whether it is kept.
use Rattle.plan_num.proofs.Common.{ℕ, ℤ, ◌<◌, ◌≤◌, ◌≤ℤ◌, pos, negsuc, int_le, List, length, Decides}
use Rattle.plan_num.proofs.Common.{All, arith, T_from_true, ints, All-get_or}
use Rattle.pesp.specs.declared.activity.PespActivity.{PespActivity}
use Rattle.pesp.specs.Timetables.{IsActivity, IsKept, Leads, keeps_in, tension, time_of}
use Rattle.pesp.proofs.LeastTensions.{rest, rest_least, tension_is}
use Rattle.plan_num.proofs.Tests.{is_true}

-- minutes within bounds that lead from one time to another
abbrev Within : ℕ → ℤ → ℤ → ℕ → ℕ → Type 0
Within period lower upper from to =
    (minutes : ℕ) × Leads period from to minutes × (lower ≤ℤ pos minutes) × (pos minutes ≤ℤ upper)

low_of : (l other : ℕ) → pos l ≤ℤ pos other → l ≤ other
low_of l other h = omega (arith, ints)

high_of : (n other u : ℕ) → n ≤ other → other ≤ u → pos n ≤ℤ pos u
high_of n other u h k = omega (arith, ints)

-- between plain bounds
passes : (period l u from to : ℕ) → from < period → to < period
    → Decides (int_le (tension period (pos l) from to) (pos u))
    (Within period (pos l) (pos u) from to)
passes period l u from to from_in to_in =
    let is = tension_is period l from to (omega arith) in
    let least = rest_least period l from to from_in to_in in grind (
      arith,
      int_le,
      rest,
      T_from_true,
      high_of,
      low_of,
      is_true,
    )

passes_z : (period : ℕ) (lower upper : ℤ) (from to : ℕ) → from < period → to < period
    → pos 0 ≤ℤ lower → lower ≤ℤ upper
    → Decides (int_le (tension period lower from to) upper) (Within period lower upper from to)
passes_z period (pos l) (pos u) from to from_in to_in low order =
    passes period l u from to from_in to_in
passes_z period (pos l) (negsuc u) from to from_in to_in low order = absurd (omega (arith, ints))
passes_z period (negsuc l) upper from to from_in to_in low order = absurd (omega (arith, ints))

module _ (period : ℕ) (times : List ℕ) (within : All (λ time. time < period) times) where
  time_in : (event : ℕ) → event < length times → time_of times event < period
  time_in event some = All-get_or (λ time. time < period) times event 0 some within

  pub test_tells : (activity : PespActivity) → IsActivity (length times) activity
      → Decides (keeps_in period times activity) (IsKept period times activity)
  test_tells activity is =
      let told = passes_z period activity.lower activity.upper (time_of times activity.from)
      (time_of times activity.to) (time_in activity.from is.from) (time_in activity.to is.to)
      is.low is.in_order in grind arith
