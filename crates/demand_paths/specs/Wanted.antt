-- Customers who want to go from stop to stop, and the edges over which they go.
use Rattle.std.specs.Prelude.{ℕ, suc, ◌≡◌, ◌+◌, ◌<◌, ◌⊎◌, nat_eq, Bool, true, if◌then◌else◌, List, [], ◌∷◌, length, map, get_or, unwrap_or, All, Contains}
use Rattle.std.specs.List.{list_any}
use Rattle.std.specs.List.Sorted.{IsNonDecreasingBy}
use Rattle.walks.specs.Networks.{NetworkParts}
use Rattle.walks.specs.Walks.{edge_length, least_sums}
use Rattle.walks.specs.Paths.{length_to, path}
use Rattle.demand_paths.specs.declared.far_stop.FarStop.{FarStop}

-- the sum of those amounts whose number passes a test, where the amounts are numbered from a first
-- number on
unfoldable pub sum_where : (ℕ → Bool) → ℕ → List ℕ → ℕ
sum_where passes first [] = 0
sum_where passes first (amount ∷ amounts) =
    (if passes first then amount else 0) + sum_where passes (suc first) amounts

-- the same over lists of amounts, where the number of the list counts too
unfoldable pub sum_between : (ℕ → ℕ → Bool) → ℕ → List (List ℕ) → ℕ
sum_between passes first [] = 0
sum_between passes first (amounts ∷ lists) =
    sum_where (passes first) 0 amounts + sum_between passes (suc first) lists

-- everyone counts
abbrev pub everyone : ℕ → Bool
everyone _ = true

-- whether the path between two stops goes over the edge of an index
abbrev pub goes_over : NetworkParts → ℕ → ℕ → ℕ → Bool
goes_over network index from to = list_any (nat_eq index) (path network from to)

-- how far a stop is from another, and 0 where no walk goes there
abbrev pub distance : NetworkParts → ℕ → ℕ → ℕ
distance network from to = unwrap_or (length_to (least_sums network edge_length from) to) 0

-- a stop with its distance from another
abbrev pub far_stop : NetworkParts → ℕ → ℕ → FarStop
far_stop network from to = record { distance = distance network from to; stop = to }

-- of each stop the customers who want to go from there to each stop, or none of them
pub record AreWanted (network : NetworkParts) (wanted : List (List ℕ)) : Type 0 where
  pub size : length wanted ≡ length network.stops
  pub each : (from : ℕ) → from < length network.stops
      → (get_or wanted from [] ≡ []) ⊎ (length (get_or wanted from []) ≡ length network.stops)

-- all stops with their distances from one stop, the nearest first
pub record AreByDistance (network : NetworkParts) (from : ℕ) (stops : List FarStop) : Type 0 where
  pub size : length stops ≡ length network.stops
  pub right : All (λ far. (far.stop < length network.stops)
      × (far.distance ≡ distance network from far.stop)) stops
  pub all : (to : ℕ) → to < length network.stops → Contains (map (λ far. far.stop) stops) to
  pub rise : IsNonDecreasingBy (λ far. far.distance) stops

-- nobody is left who wants to go over an edge from one stop to another
abbrev pub NobodyLeft : NetworkParts → ℕ → List ℕ → ℕ → Type 0
NobodyLeft network from customers to = (get_or customers to 0 ≡ 0) ⊎ (path network from to ≡ [])
