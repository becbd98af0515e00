-- Inner words: cycles of activities, and what holds of their slacks in each timetable. A reader of
-- the public contracts needs none of them.
use Rattle.std.specs.Prelude.{◌≡◌, ℕ, ℤ, pos, ◌+ℤ◌, ◌-ℤ◌, ◌*ℤ◌, ◌≤ℤ◌, neg_ℤ}
use Rattle.std.specs.Prelude.{if◌then◌else◌, List, [], ◌∷◌, map, get_or, slice_get, Some, All}
use Rattle.pesp_judge.specs.declared.weighted.WeightedActivity.{WeightedActivity}
use Rattle.pesp_judge.specs.declared.step.Step.{Step}
use Rattle.pesp_judge.specs.declared.inequality.Weighing.{Weighing}
use Rattle.pesp_judge.specs.declared.inequality.Weighing.TheVariants as weighing
use Rattle.pesp_judge.specs.declared.inequality.Inequality.{Inequality}
use Rattle.pesp.specs.Timetables.{IsTimetable}
use Rattle.pesp_judge.specs.Weighted.{WeightedProblem, problem_of, slack_in, span_of}

-- the slacks of all activities in a timetable
abbrev pub slacks_of : WeightedProblem → List ℕ → List ℤ
slacks_of weighted times =
    map (λ it. slack_in weighted.period times it.activity) weighted.activities

-- the slack of a step's activity
abbrev pub slack_at : List ℤ → Step → ℤ
slack_at slacks step = get_or slacks step.place (pos 0)

-- 1 for a step along its activity, and -1 for one against it
abbrev pub sign : Step → ℤ
sign step = if step.forward then pos 1 else neg_ℤ (pos 1)

-- the slacks of steps, each times what it counts, added up
unfoldable pub along : (Step → ℤ) → List ℤ → List Step → ℤ
along counts slacks [] = pos 0
along counts slacks (step ∷ more) =
    counts step *ℤ slack_at slacks step +ℤ along counts slacks more

-- the lower bounds of steps, with their signs, added up
unfoldable pub lower_sum : List Step → ℤ
lower_sum [] = pos 0
lower_sum (step ∷ more) = sign step *ℤ step.lower +ℤ lower_sum more

-- the spans of the steps that are flipped, each times what it counts, added up
unfoldable pub flipped_sum : (Step → ℤ) → List Step → ℤ
flipped_sum counts [] = pos 0
flipped_sum counts (step ∷ more) =
    (if step.flipped then counts step *ℤ step.span else pos 0) +ℤ flipped_sum counts more

-- what a cycle takes in a timetable: the tensions of its steps, with their signs, added up
abbrev pub around : List ℤ → List Step → ℤ
around slacks steps = along sign slacks steps +ℤ lower_sum steps

-- a step is one of a problem: it goes along an activity or against it
pub record IsStep (weighted : WeightedProblem) (step : Step) : Type 0 where
  pub it : WeightedActivity
  pub there : slice_get weighted.activities step.place ≡ Some it
  pub start : step.start ≡ (if step.forward then it.activity.from else it.activity.to)
  pub end : step.end ≡ (if step.forward then it.activity.to else it.activity.from)
  pub lower : step.lower ≡ it.activity.lower
  pub span : step.span ≡ span_of weighted.period it.activity

-- steps lead from one event to another
unfoldable pub Walks : ℕ → List Step → ℕ → Type 0
Walks from [] to = from ≡ to
Walks from (step ∷ more) to = (step.start ≡ from) × Walks step.end more to

-- steps of a problem that lead back to where they begin
pub record IsCycle (weighted : WeightedProblem) (steps : List Step) : Type 0 where
  pub steps_are : All (IsStep weighted) steps
  pub begin : ℕ
  pub closed : Walks begin steps begin

-- what a step counts in a cut: so many minutes where it adds to what the cycle takes, and those
-- that are missing to a period where it takes from that; a flipped step counts the other way round
abbrev pub cut_weight : ℤ → ℤ → Step → ℤ
cut_weight period turned step =
    if step.forward then (if step.flipped then turned else (period -ℤ turned)) else
    (if step.flipped then (period -ℤ turned) else turned)

abbrev pub cut_count : ℤ → ℤ → Step → ℤ
cut_count period turned step =
    if step.flipped then neg_ℤ (cut_weight period turned step) else
    cut_weight period turned step

-- what a step counts in an inequality
abbrev pub count_in : Weighing → Step → ℤ
count_in weighing.Least step = sign step
count_in weighing.Most step = neg_ℤ (sign step)
count_in (weighing.Cut period turned) step = cut_count (pos period) turned step

-- an inequality holds for slacks
abbrev pub Holds : Inequality → List ℤ → Type 0
Holds inequality slacks =
    inequality.right ≤ℤ along (count_in inequality.weighing) slacks inequality.steps.now

-- an inequality holds in each timetable
abbrev pub HoldsAlways : WeightedProblem → Inequality → Type 0
HoldsAlways weighted inequality =
    (times : List ℕ) → IsTimetable (problem_of weighted) times
    → Holds inequality (slacks_of weighted times)
