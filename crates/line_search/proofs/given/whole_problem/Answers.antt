use Rattle.plan_num.proofs.Common.{ℤ, ◌<ℤ◌, ◌∷◌, ◌++◌, [], length, ap, sym, ◌∙◌, arith, subst, to_z}
use Rattle.plan_num.proofs.Common.{of_z, w64, All}
use Rattle.line_cost_model.proofs.Common.{CostedLine, ProblemParts, IsCostedLine, IsId}
use Rattle.line_cost_model.proofs.Proving.{holds_at as held}
use Rattle.line_walks.specs.Pools.{IsLine}
use Rattle.line_search.specs.GivenProblems.{costed_by}
use Rattle.line_search.proofs.PushedEdges.{bounded, bounded_length, told_id}
use Rattle.line_search.proofs.PushedLines.{is_costed, line_at, lines_below, lines_more, lines_whole, told_line}
use Rattle.line_search.proofs.given.whole_problem.Goals as goal

pub push_line-requires-clause-line : goal.push_line-requires-clause-line
push_line-requires-clause-line c =
    let edges = c.args.network.now.edges in
    let is = line_at c.args.pool.now c.loop-line.line c.line_id.result c.edges.result.now
    c.line_id.ensures c.edges.ensures in
    let sound = held (IsLine edges) c.args.pool.now c.loop-line.line is.line c.requires.lines.each
    is.at in
    let id : IsId is.line.id = record { low = sound.id_least; high = sound.id_greatest } in
    let cost = c.get.ensures.sound in
    let count = ap (λ (problem : ProblemParts). length problem.edges) c.loop-line.invariant
    ∙ bounded_length edges c.args.loads.now c.requires.loads in
    subst (IsCostedLine (length c.loop-line.problem.edges))
    (sym (told_line is.line c.line_id.result c.get.result c.edges.result.now id cost is.id_is
    is.over_is))
    (is_costed edges is.line c.get.result (length c.loop-line.problem.edges) count sound cost)

pub push_line-requires-clause-rising : goal.push_line-requires-clause-rising
push_line-requires-clause-rising c =
    let pool = c.args.pool.now in
    let is = line_at pool c.loop-line.line c.line_id.result c.edges.result.now c.line_id.ensures
    c.edges.ensures in
    let sound = held (IsLine c.args.network.now.edges) pool c.loop-line.line is.line
    c.requires.lines.each is.at in
    let id : IsId is.line.id = record { low = sound.id_least; high = sound.id_greatest } in
    let own = ap (λ id. to_z w64 (of_z w64 id)) is.id_is ∙ told_id is.line.id id in
    subst (λ (id : ℤ). All (λ (other : CostedLine). other.id <ℤ id) c.loop-line.problem.lines)
    (sym own)
    (subst (All (λ (other : CostedLine). other.id <ℤ is.line.id))
    (sym (ap (λ (problem : ProblemParts). problem.lines) c.loop-line.invariant))
    (lines_below pool c.args.costs.now c.loop-line.line is.line c.get.result is.at
    c.get.ensures.place c.requires.costs c.requires.lines.rise))

pub loop-line-preserved : goal.loop-line-preserved
loop-line-preserved c =
    let pool = c.args.pool.now in
    let is = line_at pool c.loop-line.line c.line_id.result c.edges.result.now c.line_id.ensures
    c.edges.ensures in
    let sound = held (IsLine c.args.network.now.edges) pool c.loop-line.line is.line
    c.requires.lines.each is.at in
    let id : IsId is.line.id = record { low = sound.id_least; high = sound.id_greatest } in
    c.in_ok-push_line.ensures.ok
    ∙ ap (λ (line : CostedLine). record {
      edges = c.loop-line.problem.edges;
      lines = c.loop-line.problem.lines ++ line ∷ [];
    }) (told_line is.line c.line_id.result
    c.get.result c.edges.result.now id c.get.ensures.sound is.id_is is.over_is)
    ∙ ap (λ (problem : ProblemParts). record {
      edges = problem.edges;
      lines = problem.lines ++ costed_by is.line c.get.result ∷ [];
    }) c.loop-line.invariant
    ∙ ap (λ lines. record {
      edges = bounded c.args.network.now.edges c.args.loads.now;
      lines = lines;
    }) (sym (lines_more pool c.args.costs.now c.loop-line.line is.line c.get.result is.at
    c.get.ensures.place))

pub returns : goal.returns
returns c =
    c.loop-line.invariant
    ∙ ap (λ lines. record {
      edges = bounded c.args.network.now.edges c.args.loads.now;
      lines = lines;
    }) (lines_whole c.args.pool.now c.args.costs.now c.loop-line.line c.requires.costs
    (omega (arith, c.loop-line-test.false, c.line_count-line-end.ensures)))
