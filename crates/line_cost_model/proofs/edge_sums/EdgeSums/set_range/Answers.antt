use Rattle.line_cost_model.proofs.RunningSums.{greatest_counts, least_counts, sums_moved}
use Rattle.line_cost_model.proofs.edge_sums.EdgeSums.set_range.Goals as goal

pub move_line-requires-clause-counted : goal.move_line-requires-clause-counted
move_line-requires-clause-counted c =
    least_counts c.args.problem.now c.args.ranges.now c.args.self.now c.line_edges-edges.result.now c.args.line
    c.edge_count.ensures.sound c.requires.each c.requires.sound c.requires.sums c.requires.there
    c.line_edges-edges.ensures

pub move_line-requires-2-clause-counted : goal.move_line-requires-2-clause-counted
move_line-requires-2-clause-counted c =
    greatest_counts c.args.problem.now c.args.ranges.now c.args.self.now c.line_edges-edges.result.now c.args.line
    c.edge_count.ensures.sound c.requires.each c.requires.sound c.requires.sums c.requires.there
    c.line_edges-edges.ensures

pub returns : goal.returns
returns c =
    let least = c.move_line.new.self in
    let greatest = c.move_line-2.new.self in
    sums_moved c.args.problem.now c.args.ranges.now c.args.self.now (record { least = least; greatest = greatest })
    c.line_edges-edges.result.now c.args.line c.args.range c.requires.sums c.requires.each c.requires.there
    c.line_edges-edges.ensures c.move_line.ensures.size c.move_line-2.ensures.size c.move_line.ensures.moved
    c.move_line-2.ensures.moved c.move_line.ensures.sound c.move_line-2.ensures.sound
