-- The activities so far are kept, and what they cost is added up.
use Rattle.plan_num.proofs.Common.{◌≡◌, ℕ, pos, ◌*◌, ◌^◌, ◌<◌, ◌≤◌, take, get_or}
use Rattle.pesp.specs.Timetables.{IsKept}
use Rattle.pesp_judge.specs.Weighted.{slack_of_all}
use Rattle.pesp_judge.proofs.Slacks.{nothing}
use Rattle.pesp_judge.proofs.judging.judge.Given as goal

abbrev pub invariant-loop-index : goal.invariant-loop-index
invariant-loop-index l =
    record {
      cost : pos l.cost ≡ slack_of_all l.weighted.period l.times (take l.index l.weighted.activities);
      kept : (k : ℕ) → k < l.index
          → IsKept l.weighted.period l.times (get_or l.weighted.activities k nothing).activity;
      high : l.cost ≤ l.index * (720 * 10 ^ 9);
    }
