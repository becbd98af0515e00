use Rattle.plan_num.proofs.Common.{◌∙◌, ◌++◌, ◌∷◌, [], ap, sym}
use Rattle.line_cost_model.specs.Problems.{CostedLine}
use Rattle.line_cost_model.proofs.Mapped.{map_more}
use Rattle.line_cost_model.proofs.pass.renew_costs.Goals as goal

pub loop-line-preserved : goal.loop-line-preserved
loop-line-preserved c =
    c.in_ok-push.ensures.items ∙ ap (λ costs. costs ++ c.cost_of_line.result ∷ []) c.loop-line.invariant
    ∙ sym (map_more (λ (line : CostedLine). line.cost) c.args.problem.now.lines c.loop-line.line
    c.cost_of_line.result c.cost_of_line.ensures)
