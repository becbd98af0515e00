-- Changes of a day that are decided one after the other, and taken back again.
use Rattle.std.specs.Prelude.{ℕ, ◌&&◌, ◌==◌, not, Bool, List, length, map, position, Option}
use Rattle.std.specs.List.{enumerate_from, list_any, range_with_len}
use Rattle.propagation.specs.LeastTimes.{least_times}
use Rattle.propagation.specs.Lateness.{is_broken}
use Rattle.propagation.specs.Problems.{DelayProblem}
use Rattle.propagation.specs.Waiting.{chosen_changes}
use Rattle.delay_trials.specs.declared.decided.Decided.{Decided}

-- a day, and what is decided of its changes, the last decision first
pub record TrialParts : Type 0 where
  pub problem : DelayProblem
  pub decided : List Decided

-- a change is decided; it is decided that it is kept
abbrev pub is_decided : List Decided → ℕ → Bool
is_decided decided change = list_any (λ at. at.change == change) decided

abbrev pub is_kept : List Decided → ℕ → Bool
is_kept decided change = list_any (λ at. (at.change == change) && at.kept) decided

-- the least times where the changes are kept of which that is decided
abbrev pub kept_of : TrialParts → List Bool
kept_of trial = map (is_kept trial.decided) (range_with_len 0 (length trial.problem.changes))

abbrev pub times_of : TrialParts → List ℕ
times_of trial = least_times trial.problem (chosen_changes trial.problem (kept_of trial))

-- the first change that is not decided and that these times break
abbrev pub first_broken : TrialParts → Option ℕ
first_broken trial =
    position (λ at. not (is_decided trial.decided at.0) && is_broken (times_of trial) at.1)
    (enumerate_from 0 trial.problem.changes)
