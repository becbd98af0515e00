-- Plans: for each trip the one that comes next, or none; what a plan gains by its links, and which
-- plans gain the most.
use Rattle.std.specs.Prelude.{ℕ, ℤ, pos, ◌≡◌, ◌≤◌, ◌<◌, ◌+ℤ◌, ◌≤ℤ◌, ◌==◌, is_some, Bool, true}
use Rattle.std.specs.Prelude.{false, List, length, map, take, fold, filter_map, get_or, Option}
use Rattle.std.specs.Prelude.{Some, None, option_map, unwrap_or, ⊤}
use Rattle.std.specs.List.{list_any, enumerate_from}
use Rattle.link_plans.specs.Links.{Links}

-- the trip that comes next, where there is one
abbrev pub next : List (Option ℕ) → ℕ → Option ℕ
next plan i = get_or plan i None

-- successors are trips of the plan, and no trip follows two
pub record AreSuccessors (plan : List (Option ℕ)) : Type 0 where
  pub within : (i j : ℕ) → next plan i ≡ Some j → j < length plan
  pub once : (i other j : ℕ) → next plan i ≡ Some j → next plan other ≡ Some j → i ≡ other

-- a plan gives each trip one that may follow it, or none, and no trip follows two
pub record IsPlan (links : Links) (plan : List (Option ℕ)) : Type 0 where
  pub each : length plan ≡ links.count
  pub follow : (i j : ℕ) → next plan i ≡ Some j → is_some (links.gain i j) ≡ true
  pub once : (i other j : ℕ) → next plan i ≡ Some j → next plan other ≡ Some j → i ≡ other

-- a successor is a trip
abbrev pub is_trip : ℕ → Option ℕ → Bool
is_trip j None = false
is_trip j (Some other) = j == other

-- some trip has a trip as its successor
abbrev pub is_next : List (Option ℕ) → ℕ → Bool
is_next plan j = list_any (is_trip j) plan

-- the links of a plan, each a trip and the one after it
abbrev pub plan_links : List (Option ℕ) → List (ℕ × ℕ)
plan_links plan = filter_map (λ at. option_map (λ j. (at.0, j)) at.1) (enumerate_from 0 plan)

-- the sum of some numbers
abbrev pub total : List ℤ → ℤ
total numbers = fold (λ sum number. sum +ℤ number) (pos 0) numbers

-- what the links of a plan gain
abbrev pub plan_gain : Links → List (Option ℕ) → ℤ
plan_gain links plan =
    total (map (λ link. unwrap_or (links.gain link.0 link.1) (pos 0)) (plan_links plan))

-- a plan that gains no less than any plan
pub record IsBest (links : Links) (plan : List (Option ℕ)) : Type 0 where
  pub possible : IsPlan links plan
  pub most : (other : List (Option ℕ)) → IsPlan links other
      → plan_gain links other ≤ℤ plan_gain links plan

-- a successor comes no later than another: by their numbers, and none after every trip
abbrev pub ComesNoLater : Option ℕ → Option ℕ → Type 0
ComesNoLater (Some i) (Some j) = i ≤ j
ComesNoLater (Some i) None = ⊤
ComesNoLater None (Some j) = ⊥
ComesNoLater None None = ⊤

-- a list of successors comes no later than another: where they agree before a trip, its own comes
-- no later
abbrev pub AreNoLater : List (Option ℕ) → List (Option ℕ) → Type 0
AreNoLater plan other =
    (i : ℕ) → i < length plan → take i plan ≡ take i other
    → ComesNoLater (next plan i) (next other i)

-- among the plans that gain the most, the one whose list of successors comes first
pub record IsFirstBest (links : Links) (plan : List (Option ℕ)) : Type 0 where
  pub best : IsBest links plan
  pub first : (other : List (Option ℕ)) → IsBest links other → AreNoLater plan other
