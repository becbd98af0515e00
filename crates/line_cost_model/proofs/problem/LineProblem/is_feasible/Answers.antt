use Rattle.plan_num.proofs.Common.{◌∙◌, true, false, Some, arith, ap, sym}
use Rattle.line_cost_model.specs.Concepts.{keeps_bounds}
use Rattle.line_cost_model.proofs.Feasible.{feasible_first, tested_more, tested_end, test_means}
use Rattle.line_cost_model.proofs.problem.LineProblem.is_feasible.Goals as goal

pub loop-edge-init : goal.loop-edge-init
loop-edge-init c = feasible_first c.args.self.now c.args.f.now c.requires.each

pub returns-then-not-keeps_bounds-clause-test : goal.returns-then-not-keeps_bounds-clause-test
returns-then-not-keeps_bounds-clause-test c =
    sym (c.loop-edge.invariant ∙ tested_more (keeps_bounds c.args.self.now.lines c.args.f.now) c.args.self.now.edges
    c.loop-edge.edge false (c.keeps_bounds.ensures ∙ ap Some c.if-not-keeps_bounds.true))

pub loop-edge-preserved : goal.loop-edge-preserved
loop-edge-preserved c =
    c.loop-edge.invariant ∙ tested_more (keeps_bounds c.args.self.now.lines c.args.f.now) c.args.self.now.edges
    c.loop-edge.edge true (c.keeps_bounds.ensures ∙ ap Some c.if-not-keeps_bounds.false)

pub returns-clause-means : goal.returns-clause-means
returns-clause-means c = test_means c.args.self.now c.args.f.now true
    (sym (c.loop-edge.invariant ∙ tested_end (keeps_bounds c.args.self.now.lines c.args.f.now) c.args.self.now.edges
    c.loop-edge.edge (omega (arith, c.loop-edge-test.false, c.edge_count-edge-end.ensures.count))))
