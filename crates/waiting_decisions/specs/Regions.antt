-- Regions of waiting decisions: of some changes it is decided that they are kept or dropped, and
-- the others are free.
use Rattle.std.specs.Prelude.{ℕ, ℤ, ◌≡◌, ◌≤ℤ◌, ◌&&◌, ◌==◌, not, Bool, true, false, List, length, map, slice_set, zip}
use Rattle.std.specs.Prelude.{position, replicate, get_or, Option}
use Rattle.std.specs.List.{list_all}
use Rattle.propagation.specs.Lateness.{is_broken}
use Rattle.propagation.specs.LeastTimes.{IsFeasible}
use Rattle.propagation.specs.Problems.{DelayProblem}
use Rattle.propagation.specs.Waiting.{chosen_changes}
use Rattle.waiting_decisions.specs.declared.decision.Decision.{Decision}
use Rattle.waiting_decisions.specs.declared.decision.Decision.TheVariants as decision
use Rattle.waiting_decisions.specs.Choices.{times_of, total}

-- the region in which no change is decided
abbrev pub open_region : DelayProblem → List Decision
open_region problem = replicate (length problem.changes) decision.Free

-- tests of what is decided
abbrev pub is_free : Decision → Bool
is_free decision.Free = true
is_free _ = false

abbrev pub is_kept : Decision → Bool
is_kept decision.Kept = true
is_kept _ = false

abbrev pub is_dropped : Decision → Bool
is_dropped decision.Dropped = true
is_dropped _ = false

-- the least set of a region, which keeps nothing that is free, and its greatest set, which keeps
-- all that is
abbrev pub least_set : List Decision → List Bool
least_set region = map is_kept region

abbrev pub greatest_set : List Decision → List Bool
greatest_set region = map (λ at. not (is_dropped at)) region

-- the times of a region: the least ones of its least set
abbrev pub times_in : DelayProblem → List Decision → List ℕ
times_in problem region = times_of problem (least_set region)

-- the bound of a region: how late all arrivals are at its times, and a penalty for each change that
-- it drops
abbrev pub bound_of : DelayProblem → ℕ → List Decision → ℤ
bound_of problem penalty region =
    total problem penalty (greatest_set region) (times_in problem region)

-- the free change of least index that the times of a region break; changes stand by id rising
abbrev pub first_broken : DelayProblem → List Decision → Option ℕ
first_broken problem region =
    position (λ at. is_free at.0 && is_broken (times_in problem region) at.1)
    (zip region problem.changes)

-- a region with one more decision
abbrev pub decided : List Decision → ℕ → Decision → List Decision
decided region change as_what = slice_set region change as_what

-- a change is free in a region
abbrev pub is_free_at : List Decision → ℕ → Bool
is_free_at region change = is_free (get_or region change decision.Dropped)

-- a set of kept changes lies in a region: it keeps what the region keeps, and drops what it drops
abbrev pub allows : Decision → Bool → Bool
allows decision.Free is_kept = true
allows decision.Kept is_kept = is_kept
allows decision.Dropped is_kept = not is_kept

abbrev pub lies_in : List Decision → List Bool → Bool
lies_in region kept =
    (length kept == length region) && list_all (λ at. allows at.0 at.1) (zip region kept)

-- no set of changes in a region, with any feasible times for it, comes to less than a cost
abbrev pub CostsAtLeastIn : DelayProblem → ℕ → List Decision → ℤ → Type 0
CostsAtLeastIn problem penalty region cost = (kept : List Bool) (times : List ℕ)
    → lies_in region kept ≡ true → IsFeasible problem (chosen_changes problem kept) times
    → cost ≤ℤ total problem penalty kept times
