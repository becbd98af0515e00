-- Which changes are kept, and the disposition that keeps them.
use Rattle.std.specs.Prelude.{ℕ, ℤ, pos, negsuc, zero, suc, ◌+◌, ◌<◌, ◌≤◌, ◌≡◌, nat_le, Bool, true, false, List, []}
use Rattle.std.specs.Prelude.{filter, get_or, length}
use Rattle.std.specs.List.{items_where_true}
use Rattle.propagation.specs.declared.step.Activity.{Activity}
use Rattle.propagation.specs.LeastTimes.{IsLeast, time_at, least_times}
use Rattle.propagation.specs.Problems.{DelayProblem, planned_at}

-- the changes that are chosen, by one truth value for each change
abbrev pub chosen_changes : DelayProblem → List Bool → List Activity
chosen_changes problem kept = items_where_true kept problem.changes

-- a set of changes keeps all that another one keeps
abbrev pub KeepsAll : List Bool → List Bool → Type 0
KeepsAll kept fewer =
    (change : ℕ) → get_or fewer change false ≡ true → get_or kept change false ≡ true

-- times grow with the set of changes that is kept: no event is earlier than where fewer are kept
abbrev pub GrowWithKept : DelayProblem → List Bool → List ℕ → Type 0
GrowWithKept problem kept times = (fewer : List Bool) (others : List ℕ) → KeepsAll kept fewer
    → IsLeast problem (chosen_changes problem fewer) others
    → (event : ℕ) → event < length problem.events → time_at others event ≤ time_at times event

-- a departure waits so many minutes, for all changes (-1), or for none (-2), for passengers who are
-- ready at a time, where it is planned at another
abbrev pub waits : ℤ → ℕ → ℕ → Bool
waits (pos more) ready planned = nat_le ready (planned + more)
waits (negsuc zero) ready planned = true
waits (negsuc (suc more)) ready planned = false

-- a change is kept, by the times where none is; its delay does not count
abbrev pub is_kept : DelayProblem → ℤ → List ℕ → Activity → Bool
is_kept problem wait alone change =
    waits wait (time_at alone change.step.from + change.step.lower)
    (planned_at problem.events change.step.to)

-- the times where no change is kept
abbrev pub times_alone : DelayProblem → List ℕ
times_alone problem = least_times problem []

-- the changes that are kept
unfoldable pub kept_changes : DelayProblem → ℤ → List Activity
kept_changes problem wait = filter (is_kept problem wait (times_alone problem)) problem.changes

-- the disposition: the least times where these changes are kept
abbrev pub disposition : DelayProblem → ℤ → List ℕ
disposition problem wait = least_times problem (kept_changes problem wait)

-- times are the disposition of a problem: the least ones where those changes are kept that wait by
-- the least times without any change
pub record IsDisposition (problem : DelayProblem) (wait : ℤ) (times : List ℕ) : Type 0 where
  pub alone : List ℕ
  pub alone_least : IsLeast problem [] alone
  pub least : IsLeast problem (filter (is_kept problem wait alone) problem.changes) times
