use Rattle.line_cost_model.proofs.RootSums.{root_sums}
use Rattle.line_cost_model.proofs.edge_sums.EdgeSums.root.Goals as goal

pub returns : goal.returns
returns c =
    root_sums c.args.problem.now c.args.ranges.now (record {
      least = c.in_ok-least.least;
      greatest = c.in_ok-greatest.greatest;
    }) c.requires.root c.in_ok-least.ensures.zero c.in_ok-greatest.ensures.driven c.in_ok-least.ensures.sound
    c.in_ok-greatest.ensures.sound
