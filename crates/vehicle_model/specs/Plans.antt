-- What plans of vehicles cost, and which plan is chosen. A plan has for each trip the one that its
-- vehicle runs next, or none.
use Rattle.std.specs.Prelude.{ℕ, ◌≤◌, ◌+◌, ◌*◌, ◌&&◌, nat_eq, not, is_some, Bool, true, List, []}
use Rattle.std.specs.Prelude.{◌∷◌, ◌++◌, length, map, sum, filter, find, min, Option, Some, None}
use Rattle.std.specs.Prelude.{unwrap_or}
use Rattle.std.specs.List.{flat_map, range_with_len, reduce}
use Rattle.link_plans.specs.Links.{Links}
use Rattle.link_plans.specs.Plans.{is_next, plan_links, AreNoLater, IsPlan}
use Rattle.vehicle_model.specs.Trips.{TripsParts, links_of, link_minutes}

-- the first trips of the vehicles: those that follow none
abbrev pub starts : List (Option ℕ) → List ℕ
starts plan = filter (λ j. not (is_next plan j)) (range_with_len 0 (length plan))

-- the dead minutes of the links of a plan
abbrev pub plan_minutes : TripsParts → List (Option ℕ) → ℕ
plan_minutes trips plan =
    sum (map (λ link. unwrap_or (link_minutes trips link.0 link.1) 0) (plan_links plan))

-- what a plan costs in millionths: its vehicles, and the dead minutes of its links
abbrev pub plan_cost : TripsParts → List (Option ℕ) → ℕ
plan_cost trips plan =
    trips.vehicle * length (starts plan) + trips.empty * plan_minutes trips plan

-- a plan that costs no more than any plan
pub record IsCheapest (trips : TripsParts) (plan : List (Option ℕ)) : Type 0 where
  pub possible : IsPlan (links_of trips) plan
  pub least : (other : List (Option ℕ)) → IsPlan (links_of trips) other
      → plan_cost trips plan ≤ plan_cost trips other

-- the chosen plan: among the cheapest, the one whose list of successors comes first
pub record IsChosen (trips : TripsParts) (plan : List (Option ℕ)) : Type 0 where
  pub cheapest : IsCheapest trips plan
  pub first : (other : List (Option ℕ)) → IsCheapest trips other → AreNoLater plan other

-- what may come after a trip: those that may follow it, by their numbers, and none at last
abbrev pub choices_of : Links → ℕ → List (Option ℕ)
choices_of links i =
    map Some (filter (λ j. is_some (links.gain i j)) (range_with_len 0 links.count)) ++ None ∷ []

-- all lists of one choice for each trip, in the order of the choices
unfoldable pub all_lists : List (List (Option ℕ)) → List (List (Option ℕ))
all_lists [] = [] ∷ []
all_lists (choices ∷ more) =
    let rests = all_lists more in
    flat_map (λ choice. map (λ rest. choice ∷ rest) rests) choices

-- no trip stands twice
unfoldable pub is_apart : List (Option ℕ) → Bool
is_apart [] = true
is_apart (None ∷ plan) = is_apart plan
is_apart (Some j ∷ plan) = not (is_next plan j) && is_apart plan

-- all plans, those first whose list of successors comes first
abbrev pub all_plans : Links → List (List (Option ℕ))
all_plans links =
    filter is_apart (all_lists (map (choices_of links) (range_with_len 0 links.count)))

-- the least cost of some plans
abbrev pub least_cost : TripsParts → List (List (Option ℕ)) → ℕ
least_cost trips plans = unwrap_or (reduce min (map (plan_cost trips) plans)) 0

-- the first of some plans that costs the least
abbrev pub first_cheapest : TripsParts → List (List (Option ℕ)) → List (Option ℕ)
first_cheapest trips plans =
    let least = least_cost trips plans in
    unwrap_or (find (λ plan. nat_eq (plan_cost trips plan) least) plans) []

-- the chosen plan: the first of all plans that costs the least
unfoldable pub chosen_plan : TripsParts → List (Option ℕ)
chosen_plan trips = first_cheapest trips (all_plans (links_of trips))
