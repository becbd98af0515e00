-- Places of trips: the number of a trip, and the one behind them all, which stands for no trip.
use Rattle.std.specs.Prelude.{ℕ, ◌≡◌, ◌↔◌, ◌<◌, nat_lt, if◌then◌else◌, List, length, slice_set}
use Rattle.std.specs.Prelude.{Option, Some, None, unwrap_or}
use Rattle.link_plans.specs.Plans.{next}

-- what comes at a place, of so many trips
abbrev pub successor_at : ℕ → ℕ → Option ℕ
successor_at count place = if nat_lt place count then Some place else None

-- the place of what comes
abbrev pub place_of : ℕ → Option ℕ → ℕ
place_of count next = unwrap_or next count

-- lists of the next trips and of those before: they say the same
pub record AreLinked (after before : List (Option ℕ)) : Type 0 where
  pub each : length before ≡ length after
  pub within : (i j : ℕ) → next after i ≡ Some j → j < length after
  pub both : (i j : ℕ) → (next after i ≡ Some j) ↔ (next before j ≡ Some i)

-- what comes before the trips, where it is taken away from one
abbrev pub forgotten : List (Option ℕ) → Option ℕ → List (Option ℕ)
forgotten before None = before
forgotten before (Some own) = slice_set before own None
