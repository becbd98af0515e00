-- The definitions on small days.
use Rattle.std.proofs.Common.{◌≡◌, ℕ, ◌&&◌, not, List, [], ◌∷◌, ◌++◌, map, refl, pos, Option, Some, None, true}
use Rattle.connections.specs.declared.event_kind.EventKind.TheVariants as event
use Rattle.connections.specs.declared.connection.Connection.{Connection}
use Rattle.connections.specs.declared.found.Found.{Found}
use Rattle.connections.specs.declared.rule.JourneyRule.{JourneyRule}
use Rattle.connections.specs.declared.rule.JourneyRule.TheVariants as rule
use Rattle.connections.specs.declared.timed_event.TimedEvent.{TimedEvent}
use Rattle.connections.specs.Nets.{JourneyParts}
use Rattle.connections.specs.Journeys.{is_journey}
use Rattle.connections.specs.Judged.{first_broken_rule}

-- ---- two lines over three stops, each in both directions, twice from minute 0 to 20: line 1 goes over
-- all stops, and line 2 between the first two

abbrev pub d : ℕ → ℕ → TimedEvent
d stop time = record { kind = event.Departure; stop = stop; time = time }

abbrev pub a : ℕ → ℕ → TimedEvent
a stop time = record { kind = event.Arrival; stop = stop; time = time }

abbrev pub c : ℕ → ℕ → Connection
c from to = record { from = from; to = to }

abbrev pub day : JourneyParts
day = record {
  events = d 1 0 ∷ a 2 4 ∷ d 2 5 ∷ a 3 11 ∷ d 1 20 ∷ a 2 24 ∷ d 2 25 ∷ a 3 31 ∷ d 3 0 ∷ a 2 6 ∷ d 2 7 ∷ a
      1 11 ∷ d 3 20 ∷ a 2 26 ∷ d 2 27 ∷ a 1 31 ∷ d 1 0 ∷ a 2 4 ∷ d 1 20 ∷ a 2 24 ∷ d 2 0 ∷ a 1
      4 ∷ d 2 20 ∷ a 1 24 ∷ [];
  connections = c 0 1 ∷ c 1 2 ∷ c 2 3 ∷ c 4 5 ∷ c 5 6 ∷ c 6 7 ∷ c 8 9 ∷ c 9 10 ∷ c 10 11 ∷ c 12 13 ∷ c 13 14 ∷
      c 14 15 ∷ c 16 17 ∷ c 18 19 ∷ c 20 21 ∷ c 22 23 ∷ c 1 22 ∷ c 9 22 ∷ c 11 18 ∷ c 17 6 ∷ c
      17 10 ∷ c 19 14 ∷ c 21 4 ∷ [];
}

-- ---- what is found

abbrev pub found : List ℕ → List ℕ → Found
found journey reached = record { journey = journey; reached = reached }

abbrev broken : ℕ → ℕ → ℕ → Found → Option JourneyRule
broken from to start answer = first_broken_rule day (pos from) (pos to) (pos start) answer

abbrev ride : List ℕ
ride = 0 ∷ 1 ∷ 2 ∷ 3 ∷ []

abbrev closed : List ℕ
closed = 0 ∷ 1 ∷ 2 ∷ 10 ∷ 16 ∷ 17 ∷ []

abbrev pub first : Found
first = found ride closed

abbrev pub second : Found
second = found (4 ∷ 5 ∷ 6 ∷ 7 ∷ []) (4 ∷ 5 ∷ 6 ∷ 14 ∷ 18 ∷ 19 ∷ [])

-- answers, each with the rule that it breaks
abbrev answers : List (Option JourneyRule × Option JourneyRule)
answers = (broken 1 3 0 first, None) ∷ (broken 1 3 1 second, None)
    ∷ (broken 3 1 21 (found [] []), None)
    -- event 11 is reached by the change from event 18
    ∷ (broken 1 3 0 (found ride (0 ∷ 1 ∷ 2 ∷ 16 ∷ 17 ∷ [])), Some rule.Step)
    -- event 17 is a departure of the other line
    ∷ (broken 1 3 0 (found ride (0 ∷ 1 ∷ 2 ∷ 10 ∷ 17 ∷ [])), Some rule.Start)
    -- event 4 arrives at the stop
    ∷ (broken 1 3 0 (found ride (0 ∷ 1 ∷ 2 ∷ 3 ∷ 10 ∷ 16 ∷ 17 ∷ [])), Some rule.Early)
    -- a larger set that is closed proves it too
    ∷ (broken 1 3 0 (found ride (closed ++ 20 ∷ 21 ∷ [])), None)
    -- a set that falls, one with an event twice, and events that are not there
    ∷ (broken 1 3 0 (found ride (1 ∷ 0 ∷ 2 ∷ 10 ∷ 16 ∷ 17 ∷ [])), Some rule.Journey)
    ∷ (broken 1 3 0 (found ride (0 ∷ closed)), Some rule.Journey)
    ∷ (broken 1 3 0 (found ride (closed ++ 24 ∷ [])), Some rule.Journey)
    ∷ (broken 1 3 0 (found (0 ∷ 1 ∷ 2 ∷ 24 ∷ []) closed), Some rule.Journey)
    -- no connection leads from event 2 to event 4
    ∷ (broken 1 3 0 (found (0 ∷ 1 ∷ 3 ∷ []) closed), Some rule.Journey)
    -- event 1 is at minute 0, and event 2 at stop 2
    ∷ (broken 1 3 1 (found ride closed), Some rule.Journey)
    ∷ (broken 1 3 0 (found (0 ∷ 1 ∷ []) closed), Some rule.Journey)
    -- a later journey, with what was found for it
    ∷ (broken 1 3 0 second, Some rule.Start)
    ∷ (
      broken 1 3 0 (found second.journey (0 ∷ 1 ∷ 2 ∷ 3 ∷ 4 ∷ 5 ∷ 6 ∷ 8 ∷ 9 ∷ 10 ∷ 11 ∷ 12 ∷ 13
          ∷ 14 ∷ 16 ∷ 17 ∷ 18 ∷ 19 ∷ 20 ∷ 21 ∷ 22 ∷ 23 ∷ [])),
      Some rule.Early,
    )
    -- without a journey each event counts as before the arrival
    ∷ (broken 1 3 0 (found [] closed), Some rule.Start) ∷ []

each_breaks_it : map (λ at. at.0) answers ≡ map (λ at. at.1) answers
unfolding first_broken_rule
each_breaks_it = refl

rides_from_stop_1 : is_journey day (pos 1) (pos 3) (pos 0) ride
    && not (is_journey day (pos 2) (pos 3) (pos 0) ride) ≡ true
rides_from_stop_1 = refl

-- ---- a day that was disposed: the second trip is late, so that one change can be used no more

abbrev pub late_day : JourneyParts
late_day = record {
  events = d 1 5 ∷ a 2 13 ∷ d 2 13 ∷ a 3 20 ∷ d 2 30 ∷ a 3 37 ∷ [];
  connections = c 0 1 ∷ c 2 3 ∷ c 1 4 ∷ c 4 5 ∷ [];
}

-- the change to event 3 is missed
missed_change : first_broken_rule late_day (pos 1) (pos 3) (pos 0)
    (found (0 ∷ 1 ∷ 4 ∷ 5 ∷ []) (0 ∷ 1 ∷ 4 ∷ []))
    ∷ first_broken_rule late_day (pos 1) (pos 3) (pos 0) (found ride (0 ∷ 1 ∷ 2 ∷ [])) ∷ []
    ≡ None ∷ Some rule.Journey ∷ []
unfolding first_broken_rule
missed_change = refl
