-- Periodic event scheduling with weights: what a timetable costs, and what a judge says of one.
use Rattle.std.specs.Prelude.{◌≡◌, ℕ, ℤ, pos, ◌≤◌, ◌^◌, ◌+ℤ◌, ◌-ℤ◌, ◌*ℤ◌, ◌≤ℤ◌, List, [], ◌∷◌, length}
use Rattle.std.specs.Prelude.{map, All, Some}
use Rattle.std.specs.Int.{int_min}
use Rattle.pesp.specs.declared.activity.PespActivity.{PespActivity}
use Rattle.pesp.specs.Timetables.{Problem, IsActivity, IsTimetable, IsFirstBroken, time_of, slack}
use Rattle.pesp_judge.specs.declared.weighted.WeightedActivity.{WeightedActivity}
use Rattle.pesp_judge.specs.declared.judging.Judged.{Judged}
use Rattle.pesp_judge.specs.declared.judging.Judged.TheVariants as judged

-- a period, so many events, and activities with weights between them
pub record WeightedProblem : Type 0 where
  pub period : ℕ
  pub events : ℕ
  pub activities : List WeightedActivity

-- the same without weights
abbrev pub problem_of : WeightedProblem → Problem
problem_of weighted =
    record {
      period = weighted.period;
      events = weighted.events;
      activities = map (λ it. it.activity) weighted.activities;
    }

-- the slack of an activity in a timetable: the minutes that it takes above its lower bound
abbrev pub slack_in : ℕ → List ℕ → PespActivity → ℤ
slack_in period times activity =
    slack period activity.lower (time_of times activity.from) (time_of times activity.to)

-- what activities cost in a timetable: the weight of each times its slack, added up
unfoldable pub slack_of_all : ℕ → List ℕ → List WeightedActivity → ℤ
slack_of_all period times [] = pos 0
slack_of_all period times (it ∷ more) =
    pos it.weight *ℤ slack_in period times it.activity +ℤ slack_of_all period times more

-- the weighted slack of a timetable
abbrev pub weighted_slack : WeightedProblem → List ℕ → ℤ
weighted_slack weighted times = slack_of_all weighted.period times weighted.activities

-- what always holds of a problem with weights
pub record IsWeighted (weighted : WeightedProblem) : Type 0 where
  pub some : 1 ≤ weighted.period
  pub few : weighted.period ≤ 720
  pub few_events : weighted.events ≤ 20000
  pub few_activities : length weighted.activities ≤ 100000
  pub sound : All (λ it. IsActivity weighted.events it.activity) weighted.activities
  pub light : All (λ it. it.weight ≤ 10 ^ 9) weighted.activities

-- what is said of times: the first activity that is not kept, or that they are a timetable, and its
-- weighted slack
abbrev pub Judges : WeightedProblem → List ℕ → Judged → Type 0
Judges weighted times (judged.Broken index) =
    IsFirstBroken (problem_of weighted) times (Some index)
Judges weighted times (judged.Kept cost) =
    IsTimetable (problem_of weighted) times × (cost ≡ weighted_slack weighted times)

-- no timetable has less weighted slack than a claim
abbrev pub IsBound : WeightedProblem → ℤ → Type 0
IsBound weighted claim =
    (times : List ℕ) → IsTimetable (problem_of weighted) times
    → claim ≤ℤ weighted_slack weighted times

-- the most minutes that an activity can have above its lower bound in any timetable
abbrev pub span_of : ℕ → PespActivity → ℤ
span_of period activity = int_min (activity.upper -ℤ activity.lower) (pos period -ℤ pos 1)
