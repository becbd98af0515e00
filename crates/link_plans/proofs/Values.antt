-- Numbers of so many trips, by a function.
use Rattle.plan_num.proofs.Common.{◌≡◌, ℕ, ◌<◌, ◌≤◌, List, length, map, arith}
use Rattle.plan_num.proofs.Common.{get_or-map-range_with_len, length-map-range_with_len}
use Rattle.plan_num.proofs.Common.{get_or_past, range_with_len}
use Rattle.link_plans.specs.Potentials.{at}

pub values : ℕ → (ℕ → ℕ) → List ℕ
values count f = map f (range_with_len 0 count)

-- the number of a trip
pub values_at : (count : ℕ) (f : ℕ → ℕ) (i : ℕ) → i < count → at (values count f) i ≡ f i
unfolding values
values_at count f i within = get_or-map-range_with_len f 0 count i i 0 within (omega arith)

-- there is one for each
pub values_size : (count : ℕ) (f : ℕ → ℕ) → length (values count f) ≡ count
unfolding values
values_size count f = length-map-range_with_len f 0 count

-- and behind them all there is 0
pub values_past : (count : ℕ) (f : ℕ → ℕ) (i : ℕ) → count ≤ i → at (values count f) i ≡ 0
values_past count f i past = get_or_past (values count f) i 0 (omega (arith, values_size count f))
