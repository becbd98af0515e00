use Rattle.plan_num.proofs.Common.{◌∙◌, ◌*◌, ◌≤◌, ap, sym, arith, Some}
use Rattle.line_cost_model.proofs.FewLines.{adds_little, cost_more, cost_whole, few_lines}
use Rattle.line_cost_model.proofs.sums.cost_of.Goals as goal

little : (c : goal.After-from-in-loop-line) → c.from.result * c.from-in-loop-line.result ≤ 4294967296000000000000000000
little c =
    let times = c.from-in-loop-line in grind (arith, adds_little)

pub overflow_add-sum : goal.overflow_add-sum
overflow_add-sum c = grind (arith, little, few_lines)

pub loop-line-preserved : goal.loop-line-preserved
loop-line-preserved c =
    let more = cost_more c.args.problem.now c.args.frequencies.now c.loop-line.line c.from.result
    c.from-in-loop-line.result
    c.requires.each (c.cost_of_line.ensures ∙ ap Some (sym c.from.ensures)) c.from-in-loop-line.ensures in
    grind (arith, little)

pub returns-clause-cost : goal.returns-clause-cost
returns-clause-cost c =
    c.loop-line.invariant.0
    ∙ cost_whole c.args.problem.now c.args.frequencies.now c.line_count-line-end.result
    c.loop-line.line
    c.requires.each c.line_count-line-end.ensures.count c.loop-line-test.false

pub returns-clause-few : goal.returns-clause-few
returns-clause-few c =
    omega (
      arith,
      c.loop-line.invariant.1,
      c.loop-line.auto.line-end,
      c.line_count-line-end.ensures.count,
      few_lines c.args.problem.now c.line_count-line-end.ensures.sound,
    )
