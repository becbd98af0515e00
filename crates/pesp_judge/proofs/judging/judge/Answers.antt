use Rattle.plan_num.proofs.Common.{◌≡◌, ℕ, pos, ◌<◌, ◌≤◌, ◌^◌, get_or, refl, arith}
use Rattle.plan_num.proofs.Common.{length, subst, take_all, ints, cases_lt, ⊎_elim}
use Rattle.pesp.specs.Timetables.{IsKept}
use Rattle.pesp_judge.specs.Weighted.{slack_of_all, slack_in}
use Rattle.pesp_judge.proofs.Slacks.{nothing, cost_more, cost_small, broken_first, all_kept}
use Rattle.pesp_judge.proofs.judging.judge.Goals as goal

pub loop-index-init : goal.loop-index-init
unfolding slack_of_all
loop-index-init c =
    record { cost = refl; kept = λ k low. absurd (omega (arith, low)); high = omega arith }

pub returns-in-None : goal.returns-in-None
returns-in-None c =
    let all = c.activities-it-items.ensures.all in
    let period = c.period-period.ensures.value in
    let told = broken_first c.args.weighted.now c.args.times.now c.loop-index.index in
    grind (arith, told, all, period)

pub loop-index-preserved : goal.loop-index-preserved
loop-index-preserved c =
    let xs = c.args.weighted.now.activities in
    let all = c.activities-it-items.ensures.all in
    let period = c.period-period.ensures.value in
    let it = get_or xs c.loop-index.index nothing in
    let some : c.loop-index.index < length xs =
    subst (λ all. c.loop-index.index < length all) all c.loop-index-test.true in
    let told = c.in-Some.ensures in
    let light : it.weight ≤ 10 ^ 9 = c.activities-it-items.ensures.problem.light c.loop-index.index
    nothing some in
    let same : pos c.in-Some.slack ≡ slack_in c.args.weighted.now.period c.args.times.now it.activity =
    grind (arith, told, all, period) in
    let minutes : c.in-Some.slack ≤ 720 = grind (arith, told, period, c.period-period.ensures.few) in
    let more = cost_more c.args.weighted.now.period c.args.times.now xs c.loop-index.index
    c.loop-index.cost c.in-Some.slack it some refl same c.loop-index.invariant.cost in
    let small = cost_small c.loop-index.cost c.loop-index.index it.weight c.in-Some.slack
    c.loop-index.invariant.high light minutes in
    let Kept : ℕ → Type 0 = λ k.
    IsKept c.args.weighted.now.period c.args.times.now (get_or xs k nothing).activity in
    let now : Kept c.loop-index.index = grind (arith, told, all, period) in
    record {
      cost = grind (arith, more, all);
      kept = λ k below.
          ⊎_elim (c.loop-index.invariant.kept k)
          (λ last. subst Kept (omega (arith, last, below)) now) (cases_lt k c.loop-index.index);
      high = grind (arith, small, all);
    }

pub returns : goal.returns
returns c =
    let xs = c.args.weighted.now.activities in
    let all = c.activities-it-items.ensures.all in
    let done : length xs ≤ c.loop-index.index =
    subst (λ all. length all ≤ c.loop-index.index) all c.loop-index-test.false in
    all_kept c.args.weighted.now c.args.times.now c.requires.each c.requires.within
    (λ k some. c.loop-index.invariant.kept k (omega (arith, some, done)))
    _ (grind (arith, ints, c.loop-index.invariant.cost, take_all c.loop-index.index xs done))
