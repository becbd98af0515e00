use Rattle.plan_num.proofs.Common.{length, ap, ◌∙◌, arith, None, length-set, take_all, fill_by_all}
use Rattle.walks.specs.Paths.{last_edge, length_to}
use Rattle.walks.proofs.LastEdges.{edge_noted}
use Rattle.walks.proofs.paths.last_edges.Goals as goal

pub loop-index-preserved : goal.loop-index-preserved
loop-index-preserved c =
    let so_far = c.loop-index.invariant in
    record {
      size = ap length c.note_edge-in-loop-index.ensures ∙ length-set _ _ _
          ∙ ap length c.note_edge.ensures ∙ length-set _ _ _ ∙ so_far.size;
      told = edge_noted c.args.network.now.edges (length_to c.args.lengths.now)
          (length c.args.network.now.stops) c.loop-index.index c.edge-edge.result
          c.loop-index.last.items
          c.edge-edge.ensures.place (omega arith) c.edge-edge.ensures.sound so_far.size so_far.told
          c.note_edge.new.last.items c.note_edge-in-loop-index.new.last.items
          c.note_edge.ensures c.note_edge-in-loop-index.ensures;
    }

pub returns : goal.returns
returns c =
    let edges = c.args.network.now.edges in
    let lengths = length_to c.args.lengths.now in
    let all = take_all c.loop-index.index edges (omega arith) in
    fill_by_all (last_edge edges lengths) c.loop-index.last.items
    (length c.args.network.now.stops) None c.loop-index.invariant.size
    (λ to within. c.loop-index.invariant.told to within
    ∙ ap (λ some. last_edge some lengths to) all)
