-- What activities cost at most, one activity more.
use Rattle.plan_num.proofs.Common.{◌≡◌, ℕ, pos, ◌+◌, ◌<◌, ◌≤ℤ◌, List, length, take, get_or, refl, arith, ints}
use Rattle.std.proofs.Common.{◌*ℤ◌}
use Rattle.pesp.specs.Timetables.{IsTimetable}
use Rattle.pesp_judge.specs.Weighted.{WeightedProblem, IsWeighted, problem_of, slack_in, slack_of_all, span_of}
use Rattle.pesp_judge.proofs.Products.{grows}
use Rattle.pesp_judge.proofs.Slacks.{nothing, slack_more}
use Rattle.pesp_judge.proofs.Timetabled.{spans}

pub most_more : (weighted : WeightedProblem) → IsWeighted weighted → (times : List ℕ)
    → IsTimetable (problem_of weighted) times → (index sum part : ℕ)
    → index < length weighted.activities
    → slack_of_all weighted.period times (take index weighted.activities) ≤ℤ pos sum
    → pos part ≡ pos (get_or weighted.activities index nothing).weight
    *ℤ span_of weighted.period (get_or weighted.activities index nothing).activity
    → slack_of_all weighted.period times (take (index + 1) weighted.activities) ≤ℤ pos (sum + part)
most_more weighted is times timetable index sum part some so_far part_is =
    let it = get_or weighted.activities index nothing in
    let more = slack_more weighted.period times weighted.activities index it some refl in
    let within = spans weighted is times timetable index some in
    let most = grows (pos it.weight) (slack_in weighted.period times it.activity)
    (span_of weighted.period it.activity) (omega (arith, ints)) within.1 in
    omega (arith, ints, more, so_far, part_is, most)
