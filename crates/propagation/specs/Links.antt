-- Inner words: the steps in the forward order of their first events, and one pass along them.
use Rattle.std.specs.Prelude.{ℕ, ◌+◌, ◌<◌, ◌≤◌, Bool, true, false, if◌then◌else◌, List, ◌++◌, length, map, get_or}
use Rattle.std.specs.Prelude.{slice_set, All, Option, Some, None}
use Rattle.std.specs.List.{enumerate_from, fold}
use Rattle.std.specs.List.Sorted.{IsNonDecreasingBy, IsPermutation, IsStrictlyIncreasing}
use Rattle.propagation.specs.declared.day_event.DayEvent.{DayEvent}
use Rattle.propagation.specs.declared.links.Link.{Link}
use Rattle.propagation.specs.declared.step.Activity.{Activity}
use Rattle.propagation.specs.declared.step.Step.{Step}
use Rattle.propagation.specs.DayEvents.{AreNumbered, forward_rank}
use Rattle.propagation.specs.LeastTimes.{asked, later, time_at}
use Rattle.propagation.specs.Problems.{DelayProblem, IsForward, earliest_at, minutes, planned_at, steps_with}

-- a step with the rank of its first event, and the index of its change, where it is that of one
abbrev pub link_of : List DayEvent → Option ℕ → Step → Link
link_of events change step =
    record { rank = forward_rank events step.from; step = step; change = change }

-- the links of drives and waits, of turns, and of all changes
abbrev pub ride_links : List DayEvent → List Activity → List Link
ride_links events rides = map (λ ride. link_of events None ride.step) rides

abbrev pub turn_links : List DayEvent → List Step → List Link
turn_links events turns = map (link_of events None) turns

abbrev pub change_links : List DayEvent → ℕ → List Activity → List Link
change_links events first changes =
    map (λ at. link_of events (Some at.0) at.1.step) (enumerate_from first changes)

abbrev pub links_of : DelayProblem → List Link
links_of problem =
    ride_links problem.events problem.rides
    ++ (turn_links problem.events problem.turns ++ change_links problem.events 0 problem.changes)

-- a link counts, where some changes are chosen
abbrev pub counts : List Bool → Option ℕ → Bool
counts kept None = true
counts kept (Some change) = get_or kept change false

-- times where the head of a step is no earlier than the step asks
abbrev pub head_pushed : List ℕ → Step → List ℕ
head_pushed times step =
    slice_set times step.to (later (time_at times step.to) (asked times step))

-- times behind a link: its head is no earlier than it asks, where it counts
abbrev pub pushed_by : List Bool → List ℕ → Link → List ℕ
pushed_by kept times link =
    if counts kept link.change then head_pushed times link.step else times

-- times behind links, one after the other
abbrev pub pushed_along : List Bool → List Link → List ℕ → List ℕ
pushed_along kept links times = fold (pushed_by kept) times links

-- a step takes hardly more minutes than there are between its two events as planned
abbrev pub GainsLittle : List DayEvent → Step → Type 0
GainsLittle events step =
    planned_at events step.from + minutes step ≤ planned_at events step.to + 1100000

-- what is known of a problem that was read: its events are numbered and not too many, none is early,
-- its steps go forward and gain little, there are not too many of them, changes stand by their ids,
-- and links in their order
pub record IsLinked (problem : DelayProblem) (links : List Link) : Type 0 where
  pub numbered : AreNumbered (λ event. event.id) problem.events
  pub few : length problem.events ≤ 100000
  pub forward : IsForward problem
  pub ids : All (λ activity. activity.id ≤ 500000) (problem.rides ++ problem.changes)
  pub rise : IsStrictlyIncreasing (map (λ change. change.id) problem.changes)
  pub late : (event : ℕ) → event < length problem.events
      → planned_at problem.events event ≤ earliest_at problem event
  pub soon : All (λ time. time ≤ 8589934590) problem.earliest
  pub gains : All (GainsLittle problem.events) (steps_with problem problem.changes)
  pub few_links : length links ≤ 502000
  pub all : IsPermutation (links_of problem) links
  pub in_order : IsNonDecreasingBy (λ link. link.rank) links

-- the problem of parts
abbrev pub parts_of : List DayEvent → List ℕ → List Activity → List Activity → List Step
    → DelayProblem
parts_of events earliest rides changes turns = record {
  events = events;
  earliest = earliest;
  rides = rides;
  changes = changes;
  turns = turns;
}

-- the same without links: what parts must be to make a problem
pub record IsDay (problem : DelayProblem) : Type 0 where
  pub numbered : AreNumbered (λ event. event.id) problem.events
  pub few : length problem.events ≤ 100000
  pub forward : IsForward problem
  pub ids : All (λ activity. activity.id ≤ 500000) (problem.rides ++ problem.changes)
  pub rise : IsStrictlyIncreasing (map (λ change. change.id) problem.changes)
  pub late : (event : ℕ) → event < length problem.events
      → planned_at problem.events event ≤ earliest_at problem event
  pub soon : All (λ time. time ≤ 8589934590) problem.earliest
  pub gains : All (GainsLittle problem.events) (steps_with problem problem.changes)
  pub few_changes : length problem.changes ≤ 500000
  pub few_steps : length problem.rides + (length problem.turns + length problem.changes) ≤ 502000
