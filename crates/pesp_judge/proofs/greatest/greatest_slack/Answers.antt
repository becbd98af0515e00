use Rattle.plan_num.proofs.Common.{◌≡◌, ℕ, pos, ◌<◌, arith, ints, subst, length, get_or}
use Rattle.std.proofs.Common.{◌*ℤ◌}
use Rattle.pesp_judge.specs.Weighted.{slack_of_all, span_of}
use Rattle.pesp_judge.proofs.Slacks.{nothing}
use Rattle.pesp_judge.proofs.MostSlack.{most_more}
use Rattle.pesp_judge.proofs.greatest.greatest_slack.Goals as goal

pub loop-it-init : goal.loop-it-init
unfolding slack_of_all
loop-it-init c = record { most = λ times timetable. omega (arith, ints); small = omega arith }

pub loop-it-preserved : goal.loop-it-preserved
loop-it-preserved c =
    let weighted = c.args.weighted.now in
    let xs = weighted.activities in
    let index = c.loop-it.it-index in
    let all = c.activities-it-items.ensures.all in
    let period = c.period-period.ensures.value in
    let some : index < length xs = subst (λ xs. index < length xs) all c.loop-it-test.true in
    let value : pos c.most_of-sum.result ≡ pos (get_or xs index nothing).weight
    *ℤ span_of weighted.period (get_or xs index nothing).activity =
    subst (λ (period : ℕ). pos c.most_of-sum.result ≡ pos (get_or xs index nothing).weight
    *ℤ span_of period (get_or xs index nothing).activity) period
    (subst (λ xs. pos c.most_of-sum.result ≡ pos (get_or xs index nothing).weight
    *ℤ span_of c.period-period.result (get_or xs index nothing).activity) all
    c.most_of-sum.ensures.value) in
    record {
      most = λ times timetable.
          most_more weighted c.activities-it-items.ensures.problem times timetable index
          c.loop-it.sum c.most_of-sum.result some (c.loop-it.invariant.most times timetable) value;
      small = omega (arith, c.loop-it.invariant.small, c.most_of-sum.ensures.small);
    }
