-- The activities so far cost no more.
use Rattle.plan_num.proofs.Common.{ℕ, pos, ◌*◌, ◌^◌, ◌≤◌, ◌≤ℤ◌, List, take}
use Rattle.pesp.specs.Timetables.{IsTimetable}
use Rattle.pesp_judge.specs.Weighted.{problem_of, slack_of_all}
use Rattle.pesp_judge.proofs.greatest.greatest_slack.Given as goal

abbrev pub invariant-loop-it : goal.invariant-loop-it
invariant-loop-it l =
    record {
      most : (times : List ℕ) → IsTimetable (problem_of l.weighted) times
          → slack_of_all l.weighted.period times (take l.it-index l.weighted.activities) ≤ℤ pos l.sum;
      small : l.sum ≤ l.it-index * (720 * 10 ^ 9);
    }
