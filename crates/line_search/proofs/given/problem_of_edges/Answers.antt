use Rattle.plan_num.proofs.Common.{ℤ, ◌<ℤ◌, [], ◌∷◌, ◌++◌, ap, sym, ◌∙◌, arith, subst, All}
use Rattle.line_cost_model.specs.declared.edge.BoundedEdge.{BoundedEdge}
use Rattle.line_cost_model.proofs.Common.{ProblemParts, IsBoundedEdge, IsId}
use Rattle.line_cost_model.proofs.Proving.{holds_at as held}
use Rattle.line_search.specs.GivenProblems.{bounded_by}
use Rattle.line_search.proofs.PushedEdges.{edges_below, edges_more, edges_whole, is_bounded, told_edge, told_id}
use Rattle.line_search.proofs.given.problem_of_edges.Goals as goal

pub push_edge-requires-clause-edge : goal.push_edge-requires-clause-edge
push_edge-requires-clause-edge c =
    let edge = c.edge.result in
    let load = c.get-load.result in
    let id = held (λ edge. IsId edge.id) c.args.network.now.edges c.loop-index.index edge
    c.requires.ids c.edge.ensures.place in
    let sound = c.get-load.ensures.sound in
    subst IsBoundedEdge (sym (told_edge edge load c.frequency.result
    c.frequency-in-loop-index.result id sound c.frequency.ensures
    c.frequency-in-loop-index.ensures)) (is_bounded edge load id sound)

pub push_edge-requires-clause-rising : goal.push_edge-requires-clause-rising
push_edge-requires-clause-rising c =
    let edge = c.edge.result in
    let id = held (λ edge. IsId edge.id) c.args.network.now.edges c.loop-index.index edge
    c.requires.ids c.edge.ensures.place in
    subst (λ (id : ℤ). All (λ (other : BoundedEdge). other.id <ℤ id) c.loop-index.problem.edges)
    (sym (told_id edge.id id))
    (subst (All (λ (other : BoundedEdge). other.id <ℤ edge.id))
    (sym (ap (λ (problem : ProblemParts). problem.edges) c.loop-index.invariant))
    (edges_below c.args.network.now.edges c.args.loads.now c.loop-index.index edge
    c.get-load.result c.edge.ensures.place c.get-load.ensures.place c.requires.loads
    c.edge_count-index-end.ensures.network.edges_rise))

pub push_edge-requires-clause-no_line : goal.push_edge-requires-clause-no_line
push_edge-requires-clause-no_line c =
    ap (λ (problem : ProblemParts). problem.lines) c.loop-index.invariant

pub loop-index-preserved : goal.loop-index-preserved
loop-index-preserved c =
    let edge = c.edge.result in
    let load = c.get-load.result in
    let id = held (λ edge. IsId edge.id) c.args.network.now.edges c.loop-index.index edge
    c.requires.ids c.edge.ensures.place in
    c.in_ok-push_edge.ensures.ok
    ∙ ap (λ (edge : BoundedEdge). record {
      edges = c.loop-index.problem.edges ++ edge ∷ [];
      lines = c.loop-index.problem.lines;
    }) (told_edge edge load c.frequency.result
    c.frequency-in-loop-index.result id c.get-load.ensures.sound c.frequency.ensures
    c.frequency-in-loop-index.ensures)
    ∙ ap (λ (problem : ProblemParts). record {
      edges = problem.edges ++ bounded_by edge load ∷ [];
      lines = problem.lines;
    }) c.loop-index.invariant
    ∙ ap (λ edges. record { edges = edges; lines = [] }) (sym (edges_more c.args.network.now.edges
    c.args.loads.now c.loop-index.index edge load c.edge.ensures.place c.get-load.ensures.place))

pub returns : goal.returns
returns c =
    c.loop-index.invariant ∙ ap (λ edges. record { edges = edges; lines = [] })
    (edges_whole c.args.network.now.edges c.args.loads.now c.loop-index.index c.requires.loads
    (omega (arith, c.loop-index-test.false, c.edge_count-index-end.ensures.count)))
