-- What valid potentials prove of the costs of plans, and every fault of potentials in order.
use Rattle.std.specs.Prelude.{ℕ, ℤ, pos, ◌↔◌, ◌+◌, int_le, not, if◌then◌else◌, Bool, false}
use Rattle.std.specs.Prelude.{List, [], ◌∷◌, ◌++◌, map, filter, Option, Some, None}
use Rattle.std.specs.List.{flat_map, range_with_len}
use Rattle.std.specs.Ordering.{int_eq}
use Rattle.link_plans.specs.Links.{Links}
use Rattle.link_plans.specs.Plans.{plan_gain, IsPlan}
use Rattle.link_plans.specs.Potentials.{PotentialParts, at, total, IsTight}
use Rattle.vehicle_model.specs.Plans.{IsCheapest}
use Rattle.vehicle_model.specs.Trips.{TripsParts, links_of}
use Rattle.flow_potentials.specs.declared.potential_fault.PotentialFault.{PotentialFault}
use Rattle.flow_potentials.specs.declared.potential_fault.PotentialFault.TheVariants as fault

-- what valid potentials prove: exactly the tight plans are cheapest
abbrev pub TightAreCheapest : TripsParts → PotentialParts → Type 0
TightAreCheapest trips potentials = (plan : List (Option ℕ)) → IsPlan (links_of trips) plan
    → (IsCheapest trips plan ↔ IsTight (links_of trips) potentials plan)

-- a link gains more than a number
abbrev pub is_short : ℕ → Option ℤ → Bool
is_short number None = false
is_short number (Some gain) = not (int_le gain (pos number))

-- two trips whose potentials are short of the gain of their link
abbrev pub is_short_pair : Links → PotentialParts → ℕ → ℕ → Bool
is_short_pair links potentials i j =
    is_short (at potentials.u i + at potentials.v j) (links.gain i j)

-- the pairs of a trip that are short, by the second one
abbrev pub trip_faults : Links → PotentialParts → ℕ → List PotentialFault
trip_faults links potentials i = map (fault.Pair i)
    (filter (is_short_pair links potentials i) (range_with_len 0 links.count))

-- all pairs that are short, by the first and then by the second one
abbrev pub pair_faults : Links → PotentialParts → List PotentialFault
pair_faults links potentials =
    flat_map (trip_faults links potentials) (range_with_len 0 links.count)

-- all potentials together are not the gain of the plan
abbrev pub sum_faults : Links → List (Option ℕ) → PotentialParts → List PotentialFault
sum_faults links plan potentials =
    if int_eq (pos (total potentials)) (plan_gain links plan) then [] else fault.Sum ∷ []

-- every fault of potentials: pairs, and then the sum
unfoldable pub potential_faults : Links → List (Option ℕ) → PotentialParts → List PotentialFault
potential_faults links plan potentials =
    pair_faults links potentials ++ sum_faults links plan potentials
