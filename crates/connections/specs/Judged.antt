-- The rules of a journey from any hand, and of the events that are to prove that none arrives
-- earlier, in the order in which they are looked for.
use Rattle.std.specs.Prelude.{ℕ, ℤ, ◌≡◌, ◌≤◌, ◌&&◌, ◌||◌, ◌==◌, nat_eq, nat_lt, not, if◌then◌else◌, Bool, true, List}
use Rattle.std.specs.Prelude.{[], ◌∷◌, ◌++◌, length, slice_get, Option, Some}
use Rattle.std.specs.List.{list_any, range_with_len}
use Rattle.connections.specs.declared.found.Found.{Found}
use Rattle.connections.specs.declared.rule.JourneyRule.{JourneyRule}
use Rattle.connections.specs.declared.rule.JourneyRule.TheVariants as rule
use Rattle.connections.specs.Earliest.{is_before, is_rising}
use Rattle.connections.specs.Nets.{JourneyParts, time_at}
use Rattle.connections.specs.Journeys.{arrives_at, is_journey, last_of, passes_at, starts}

-- an event is one of some
abbrev pub is_in : List ℕ → ℕ → Bool
is_in events event = list_any (nat_eq event) events

-- some of these events is not there
abbrev pub is_astray : JourneyParts → List ℕ → Bool
is_astray net events = list_any (λ event. not (nat_lt event (length net.events))) events

-- there is a journey, and it is none
abbrev pub is_no_journey : JourneyParts → ℤ → ℤ → ℤ → List ℕ → Bool
is_no_journey net from to start journey =
    not (length journey == 0) && not (is_journey net from to start journey)

-- an event before the arrival is not in the set
abbrev pub is_missed : JourneyParts → Found → ℕ → Bool
is_missed net found event = is_before net found.journey event && not (is_in found.reached event)

-- a start is missed
abbrev pub misses_start : JourneyParts → ℤ → ℤ → Found → Bool
misses_start net from start found =
    list_any (λ event. passes_at (starts from start) net event && is_missed net found event)
    (range_with_len 0 (length net.events))

-- the head of a connection from the set is missed
abbrev pub misses_step : JourneyParts → Found → Bool
misses_step net found =
    list_any
    (λ connection. is_in found.reached connection.from && is_missed net found connection.to)
    net.connections

-- an arrival at the stop is in the set
abbrev pub has_arrival : JourneyParts → ℤ → Found → Bool
has_arrival net to found = list_any (passes_at (arrives_at to) net) found.reached

-- a rule, where it is broken
abbrev pub broken_where : Bool → JourneyRule → List JourneyRule
broken_where is_broken rule = if is_broken then rule ∷ [] else []

-- every rule that is broken, in order
abbrev pub broken_rules : JourneyParts → ℤ → ℤ → ℤ → Found → List JourneyRule
broken_rules net from to start found =
    broken_where (is_no_journey net from to start found.journey
    || is_astray net found.journey || is_astray net found.reached
    || not (is_rising found.reached)) rule.Journey
    ++ broken_where (misses_start net from start found) rule.Start
    ++ broken_where (misses_step net found) rule.Step
    ++ broken_where (has_arrival net to found) rule.Early

-- the first of them, or none
unfoldable pub first_broken_rule : JourneyParts → ℤ → ℤ → ℤ → Found → Option JourneyRule
first_broken_rule net from to start found =
    slice_get (broken_rules net from to start found) 0

-- no journey arrives earlier than a journey; where that is empty, there is no journey
abbrev pub NoneEarlier : JourneyParts → ℤ → ℤ → ℤ → List ℕ → Type 0
NoneEarlier net from to start [] = (other : List ℕ) → ¬ (is_journey net from to start other ≡ true)
NoneEarlier net from to start (event ∷ more) =
    (other : List ℕ) (end other_end : ℕ) → is_journey net from to start other ≡ true
    → last_of (event ∷ more) ≡ Some end → last_of other ≡ Some other_end
    → time_at net end ≤ time_at net other_end
