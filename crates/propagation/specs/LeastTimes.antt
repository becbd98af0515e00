-- Times of events that respect their earliest times and steps, and the least of all such times.
use Rattle.std.specs.Prelude.{ℕ, ◌+◌, ◌≤◌, ◌<◌, ◌≡◌, ◌==◌, zero, suc, nat_lt, if◌then◌else◌, List, length, map, filter}
use Rattle.std.specs.Prelude.{get_or, All}
use Rattle.std.specs.List.{fold, range_with_len}
use Rattle.propagation.specs.declared.step.Activity.{Activity}
use Rattle.propagation.specs.declared.step.Step.{Step}
use Rattle.propagation.specs.Problems.{DelayProblem, minutes, steps_with, earliest_at}

-- the time of an event
abbrev pub time_at : List ℕ → ℕ → ℕ
time_at times event = get_or times event 0

-- the time that a step asks of its head
abbrev pub asked : List ℕ → Step → ℕ
asked times step = time_at times step.from + minutes step

-- times are feasible where some changes are kept: each event has one, none is before its earliest
-- time, and each step has its minutes
pub record IsFeasible (problem : DelayProblem) (kept : List Activity)
    (times : List ℕ) : Type 0 where
  pub each : length times ≡ length problem.events
  pub earliest : (event : ℕ) → event < length problem.events
      → earliest_at problem event ≤ time_at times event
  pub steps : All (λ step. asked times step ≤ time_at times step.to) (steps_with problem kept)

-- feasible times that are, at every event, at most all feasible times
pub record IsLeast (problem : DelayProblem) (kept : List Activity) (times : List ℕ) : Type 0 where
  pub feasible : IsFeasible problem kept times
  pub least : (others : List ℕ) → IsFeasible problem kept others → (event : ℕ)
      → event < length problem.events → time_at times event ≤ time_at others event

-- the later one of two times, and the latest of a time and some others
abbrev pub later : ℕ → ℕ → ℕ
later time other = if nat_lt time other then other else time

abbrev pub latest : ℕ → List ℕ → ℕ
latest time others = fold later time others

-- an event at the latest of its earliest time and of what the steps into it ask
abbrev pub pushed_at : DelayProblem → List Step → List ℕ → ℕ → ℕ
pushed_at problem steps times event =
    latest (earliest_at problem event) (map (asked times) (filter (λ step. step.to == event) steps))

-- every event so, at once
abbrev pub pushed : DelayProblem → List Step → List ℕ → List ℕ
pushed problem steps times =
    map (pushed_at problem steps times) (range_with_len 0 (length problem.events))

-- the earliest times, pushed so often
unfoldable pub pushed_often : DelayProblem → List Step → ℕ → List ℕ
pushed_often problem steps zero = problem.earliest
pushed_often problem steps (suc more) = pushed problem steps (pushed_often problem steps more)

-- the least times where some changes are kept: nothing moves any more once each event could push
-- another
unfoldable pub least_times : DelayProblem → List Activity → List ℕ
least_times problem kept = pushed_often problem (steps_with problem kept) (length problem.events)
