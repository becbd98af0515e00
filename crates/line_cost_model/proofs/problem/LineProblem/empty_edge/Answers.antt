use Rattle.plan_num.proofs.Common.{◌∙◌, ap, sym, Some, None}
use Rattle.line_cost_model.proofs.EmptyEdges.{first_is, first_more, none_feasible}
use Rattle.line_cost_model.proofs.problem.LineProblem.empty_edge.Goals as goal

pub loop-edge-init : goal.loop-edge-init
loop-edge-init c = first_is c.args.self.now c.args.region.now

pub returns-in-Some-clause-first : goal.returns-in-Some-clause-first
returns-in-Some-clause-first c =
    sym (c.loop-edge.invariant ∙ first_more c.args.self.now c.args.region.now c.loop-edge.edge (Some c.in-Some.side)
    (c.empty_side.ensures ∙ ap Some c.in-Some.is))

pub returns-in-Some-clause-none : goal.returns-in-Some-clause-none
returns-in-Some-clause-none c =
    none_feasible c.args.self.now c.args.region.now c.loop-edge.edge c.in-Some.side
    (c.empty_side.ensures ∙ ap Some c.in-Some.is)

pub loop-edge-preserved : goal.loop-edge-preserved
loop-edge-preserved c =
    c.loop-edge.invariant ∙ first_more c.args.self.now c.args.region.now c.loop-edge.edge None
    (c.empty_side.ensures ∙ ap Some c.in_default.is)
