use Rattle.line_cost_model.proofs.EdgesMoved.{moved_more, next_counted, next_few}
use Rattle.line_cost_model.proofs.edge_sums.LeastSums.move_line.Goals as goal

pub moved-sum-requires-clause-counted : goal.moved-sum-requires-clause-counted
moved-sum-requires-clause-counted c =
    next_counted c.args.edges.now c.loop-edge.edge-index c.args.before c.args.after c.args.self.now.sums.items
    c.loop-edge.self.sums.items c.requires.counted c.loop-edge.invariant.moved c.loop-edge-test.true
    c.index.result.now c.index.ensures

pub moved-sum-requires-clause-few : goal.moved-sum-requires-clause-few
moved-sum-requires-clause-few c =
    next_few c.args.edges.now c.loop-edge.edge-index c.args.before c.args.after c.args.self.now.sums.items
    c.loop-edge.self.sums.items c.requires.counted c.loop-edge.invariant.moved c.loop-edge-test.true
    c.index.result.now c.index.ensures

pub loop-edge-preserved : goal.loop-edge-preserved
loop-edge-preserved c = record {
  moved = moved_more c.args.edges.now c.loop-edge.edge-index c.args.before c.args.after
      c.args.self.now.sums.items c.loop-edge.self.sums.items c.requires.counted c.loop-edge.invariant.moved
      c.loop-edge-test.true c.index.result.now c.index.ensures c.moved-sum.result c.put.new.self.sums.items
      c.moved-sum.ensures c.put.ensures.sums;
  sound = c.put.ensures.sound;
}
