use Rattle.plan_num.proofs.Common.{◌≡◌, ℕ, ℤ, List, Some, map, slice_get, subst, arith, Vec, Global}
use Rattle.plan_num.proofs.Common.{values_of, length-map, All-get_or, get_or_from_slice_get}
use Rattle.plan_num.proofs.Common.{slice_get_within}
use Rattle.walks.specs.declared.edge.Edge.{Edge}
use Rattle.walks.specs.Networks.{IsEdge}
use Rattle.walks.proofs.Noting.{noted_more, noted_all}
use Rattle.walks.proofs.stop_edges.StopEdges.new.Goals as goal

pub loop-index-preserved : goal.loop-index-preserved
loop-index-preserved c =
    let edges : List Edge = values_of c.args.edges.now.entries in
    let edge : Edge = c.index-edge.result.now in
    let items : Vec ℕ Global → List ℕ = λ row. row.items in
    let at : slice_get edges c.loop-index.index ≡ Some edge = c.index-edge.ensures in
    let i = c.loop-index.index in
    let sound = subst (IsEdge c.args.stops) (get_or_from_slice_get edges i edge edge at)
    (All-get_or (IsEdge c.args.stops) edges i edge
    (slice_get_within edges i edge at) c.requires) in
    noted_more edges c.args.stops c.loop-index.index edge (map items c.loop-index.rows.items)
    (map items c.note_edge.new.rows.items) (map items c.note_edge-in-loop-index.new.rows.items)
    at sound c.loop-index.invariant c.in_ok-note_edge.ensures.noted
    c.in_ok-note_edge-2.ensures.noted

pub returns : goal.returns
returns c =
    let edges : List Edge = values_of c.args.edges.now.entries in
    let second : ℤ × Edge → Edge = λ entry. entry.1 in
    let items : Vec ℕ Global → List ℕ = λ row. row.items in
    noted_all edges c.args.stops c.loop-index.index (map items c.loop-index.rows.items)
    (omega (arith, length-map c.args.edges.now.entries second, c.len-index-end.ensures.len))
    c.loop-index.invariant
