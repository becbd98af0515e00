use Rattle.plan_num.proofs.Common.{◌+◌, ◌∙◌, ◌&&◌, get_or, drop, ap, sym, refl, drop_all}
use Rattle.line_cost_model.proofs.Paying.{have_left, paying_more, paying_whole}
use Rattle.line_cost_model.proofs.pass.can_pay.Goals as goal

pub returns-then-not-pays : goal.returns-then-not-pays
returns-then-not-pays c multipliers left_is =
    let over = c.lines_over-line-items in
    let rest = have_left c.args.ranges.now c.args.left.now c.args.amount
    (drop (c.loop-line.line-index + 1) over.result.now) in
    sym (c.loop-line.invariant
    ∙ paying_more c.args.ranges.now c.args.left.now over.result.now c.args.amount
    c.loop-line.line-index
    (get_or over.result.now c.loop-line.line-index 0) c.pays.result c.loop-line-test.true refl
    c.pays.ensures
    ∙ ap (λ pays. pays && rest) c.if-not-pays.true)
    ∙ paying_whole c.args.problem.now c.args.ranges.now c.args.ranges.now multipliers
    c.args.left.now
    over.result.now c.args.edge c.args.amount refl left_is over.ensures.lines
    c.requires.each

pub returns : goal.returns
returns c multipliers left_is =
    let over = c.lines_over-line-items in
    sym (c.loop-line.invariant ∙ ap (have_left c.args.ranges.now c.args.left.now c.args.amount)
    (drop_all c.loop-line.line-index over.result.now c.loop-line-test.false))
    ∙ paying_whole c.args.problem.now c.args.ranges.now c.args.ranges.now multipliers
    c.args.left.now
    over.result.now c.args.edge c.args.amount refl left_is over.ensures.lines
    c.requires.each
