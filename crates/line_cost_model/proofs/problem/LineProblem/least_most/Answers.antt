use Rattle.line_cost_model.proofs.Minima.{most_more}
use Rattle.line_cost_model.proofs.problem.LineProblem.least_most.Goals as goal

pub loop-edge-preserved : goal.loop-edge-preserved
loop-edge-preserved c = most_more c.args.self.now.edges c.args.edges.now c.loop-edge.edge-index
    c.loop-edge.least c.lesser-least.result c.bounds_of.result c.loop-edge-test.true
    c.bounds_of.ensures c.loop-edge.invariant c.lesser-least.ensures
