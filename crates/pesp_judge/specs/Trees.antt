-- Inner words: regions of a tree, and what is shown in one. A reader of the public contracts needs
-- none of them.
use Rattle.std.specs.Prelude.{ℕ, ℤ, pos, ◌<◌, ◌+ℤ◌, ◌*ℤ◌, ◌≤ℤ◌, ◌<ℤ◌, List, map, length, All}
use Rattle.pesp.specs.Timetables.{IsTimetable}
use Rattle.pesp_judge.specs.declared.step.Step.{Step}
use Rattle.pesp_judge.specs.declared.cycle.Cycle.{Cycle}
use Rattle.pesp_judge.specs.declared.region.Split.{Split}
use Rattle.pesp_judge.specs.declared.leaf.Region.{Region}
use Rattle.pesp_judge.specs.declared.inequality.Inequality.{Inequality}
use Rattle.pesp_judge.specs.Weighted.{WeightedProblem, problem_of, weighted_slack}
use Rattle.pesp_judge.specs.Cycles.{IsCycle, Holds, slacks_of}
use Rattle.pesp_judge.specs.Leaves.{products}
use Rattle.pesp_judge.specs.Regions.{LiesAt, IsLeft}

-- the steps of cycles
abbrev pub steps_of : List Cycle → List (List Step)
steps_of cycles = map (λ cycle. cycle.steps.items) cycles

-- all are cycles of a problem
abbrev pub AreCycles : WeightedProblem → List Cycle → Type 0
AreCycles weighted cycles = All (λ cycle. IsCycle weighted cycle.steps.items) cycles

-- the splits on a way are of so many cycles
abbrev pub AreSplits : ℕ → List Split → Type 0
AreSplits count path = All (λ split. split.cycle < count) path

-- a region of a problem: its cycles, and splits of these
pub record IsRegion (region : Region) : Type 0 where
  pub cycles : AreCycles region.weighted.now region.cycles.now
  pub path : AreSplits (length region.cycles.now) region.path.now

-- a timetable of a problem lies in the region at the end of a way
pub record LiesIn (weighted : WeightedProblem) (cycles : List Cycle) (path : List Split)
    (times : List ℕ) : Type 0 where
  pub timetable : IsTimetable (problem_of weighted) times
  pub lies : LiesAt weighted.period (steps_of cycles) (slacks_of weighted times) path

-- the same of a region
abbrev pub IsIn : Region → List ℕ → Type 0
IsIn region times = LiesIn region.weighted.now region.cycles.now region.path.now times

-- an inequality holds in all timetables of a region
abbrev pub HoldsIn : Region → Inequality → Type 0
HoldsIn region inequality =
    (times : List ℕ) → IsIn region times
    → Holds inequality (slacks_of region.weighted.now times)

-- in all timetables of a region numbers are less than others by so much at least
abbrev pub FallsIn : Region → List ℤ → List ℤ → ℤ → Type 0
FallsIn region before after by =
    (times : List ℕ) → IsIn region times
    → (products after (slacks_of region.weighted.now times) +ℤ by)
    ≤ℤ products before (slacks_of region.weighted.now times)

-- in all timetables of a region so many times the weighted slack is so much at least
abbrev pub ShowsIn : Region → ℕ → ℤ → Type 0
ShowsIn region parts shown =
    (times : List ℕ) → IsIn region times
    → shown ≤ℤ (pos parts *ℤ weighted_slack region.weighted.now times)

-- each timetable that costs less than a claim lies in a region that is left
abbrev pub AreLeft : WeightedProblem → List Cycle → List Split → ℤ → Type 0
AreLeft weighted cycles path claim =
    (times : List ℕ) → IsTimetable (problem_of weighted) times
    → weighted_slack weighted times <ℤ claim
    → IsLeft weighted.period (steps_of cycles) (slacks_of weighted times) path
