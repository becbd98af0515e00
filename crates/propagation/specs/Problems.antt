-- What a disposition is about: events with their earliest times, and the steps by which delays go
-- on.
use Rattle.std.specs.Prelude.{ℕ, ◌+◌, ◌<◌, ◌≡◌, true, List, ◌++◌, length, map, get_or, All}
use Rattle.std.specs.List.{Contains}
use Rattle.propagation.specs.declared.day_event.DayEvent.{DayEvent}
use Rattle.propagation.specs.declared.step.Activity.{Activity}
use Rattle.propagation.specs.declared.step.Step.{Step}
use Rattle.propagation.specs.DayEvents.{no_event, stands_before}

-- the events, the earliest time of each, the drives and waits, the changes, and the turns of
-- vehicles between trips; events are told by their indexes
pub record DelayProblem : Type 0 where
  pub events : List DayEvent
  pub earliest : List ℕ
  pub rides : List Activity
  pub changes : List Activity
  pub turns : List Step

-- the minutes that a step takes: its least ones, and those that come on top
abbrev pub minutes : Step → ℕ
minutes step = step.lower + step.extra

-- the steps of drives, waits and turns, and of the changes that are kept
abbrev pub steps_with : DelayProblem → List Activity → List Step
steps_with problem kept = map (λ activity. activity.step) (problem.rides ++ kept) ++ problem.turns

-- the event at an index
abbrev pub event_at : List DayEvent → ℕ → DayEvent
event_at events event = get_or events event no_event

-- its planned time, and its earliest one
abbrev pub planned_at : List DayEvent → ℕ → ℕ
planned_at events event = (event_at events event).time

abbrev pub earliest_at : DelayProblem → ℕ → ℕ
earliest_at problem event = get_or problem.earliest event 0

-- ---- every step goes forward

-- a step joins two of so many events
abbrev pub Joins : ℕ → Step → Type 0
Joins events step = (step.from < events) × (step.to < events)

-- a step joins two events, the first of which stands before the second in the forward order
pub record GoesForward (events : List DayEvent) (step : Step) : Type 0 where
  pub from : step.from < length events
  pub to : step.to < length events
  pub before : stands_before (event_at events step.from) (event_at events step.to) ≡ true

-- each event has an earliest time, and each step goes forward, whatever is kept
pub record IsForward (problem : DelayProblem) : Type 0 where
  pub each : length problem.earliest ≡ length problem.events
  pub steps : All (GoesForward problem.events) (steps_with problem problem.changes)

-- changes that are kept are changes of the problem
abbrev pub AreChanges : DelayProblem → List Activity → Type 0
AreChanges problem kept = All (λ change. Contains problem.changes change) kept
