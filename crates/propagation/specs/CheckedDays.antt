-- Which parts make a problem, as a test.
use Rattle.std.specs.Prelude.{ℕ, ◌+◌, ◌&&◌, nat_eq, nat_le, nat_lt, Bool, List, length, drop, zip}
use Rattle.std.specs.List.{list_all, range_with_len}
use Rattle.propagation.specs.declared.day_event.DayEvent.{DayEvent}
use Rattle.propagation.specs.declared.step.Activity.{Activity}
use Rattle.propagation.specs.declared.step.Step.{Step}
use Rattle.propagation.specs.DayEvents.{stands_before}
use Rattle.propagation.specs.LeastTimes.{time_at}
use Rattle.propagation.specs.Problems.{DelayProblem, event_at, minutes, planned_at}

-- an event has its place as its id, from 1, and is planned no later than at its earliest
abbrev pub is_placed : List DayEvent → List ℕ → ℕ → Bool
is_placed events earliest event =
    nat_eq (event_at events event).id (event + 1)
    && nat_le (planned_at events event) (time_at earliest event)

-- an earliest time is not too late
abbrev pub is_soon : ℕ → Bool
is_soon time = nat_le time 8589934590

-- a step joins two of so many events
abbrev pub joins : ℕ → Step → Bool
joins count step = nat_lt step.from count && nat_lt step.to count

-- a step goes forward, and takes hardly more minutes than there are between its two events
abbrev pub goes_on : List DayEvent → Step → Bool
goes_on events step =
    stands_before (event_at events step.from) (event_at events step.to)
    && nat_le (planned_at events step.from + minutes step) (planned_at events step.to + 1100000)

abbrev pub is_step : List DayEvent → Step → Bool
is_step events step = joins (length events) step && goes_on events step

-- the same of an activity, whose id is not too great
abbrev pub is_activity : List DayEvent → Activity → Bool
is_activity events activity = nat_le activity.id 500000 && is_step events activity.step

-- changes stand by their ids
abbrev pub is_rising : List Activity → Bool
is_rising changes =
    list_all (λ pair. nat_lt pair.0.id pair.1.id) (zip changes (drop 1 changes))

-- there are not too many events and steps
abbrev pub are_few : DelayProblem → Bool
are_few problem =
    (nat_le (length problem.events) 100000
    && nat_eq (length problem.earliest) (length problem.events))
    && (nat_le (length problem.changes) 500000
    && nat_le (length problem.rides + (length problem.turns + length problem.changes)) 502000)

-- events and steps are such
abbrev pub are_events : DelayProblem → Bool
are_events problem =
    list_all (is_placed problem.events problem.earliest) (range_with_len 0 (length problem.events))
    && list_all is_soon problem.earliest

abbrev pub are_steps : DelayProblem → Bool
are_steps problem =
    (list_all (is_activity problem.events) problem.rides
    && list_all (is_activity problem.events) problem.changes)
    && (list_all (is_step problem.events) problem.turns && is_rising problem.changes)

abbrev pub is_day : DelayProblem → Bool
is_day problem = are_few problem && (are_events problem && are_steps problem)
