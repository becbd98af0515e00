use Rattle.plan_num.proofs.Common.{[], arith, w64}
use Rattle.std.proofs.lemmas.Int.{to_z-of_z}
use Rattle.plan_num.proofs.SortedIds.{kept_behind}
use Rattle.branch_certificate.proofs.problem_ids.ProblemIds.of.Goals as goal

pub loop-line-preserved : goal.loop-line-preserved
loop-line-preserved c =
    let row = c.line_row.result in
    kept_behind _ (λ r. r.0) c.args.problem.now.lines c.loop-line.line row [] _ _ _
    c.in_ok-push.ensures.items
    (to_z-of_z w64 row.0 (record { sfits = omega (arith, c.line_row.type_inv) }))
    c.loop-line.invariant c.line_row.ensures

pub loop-edge-preserved : goal.loop-edge-preserved
loop-edge-preserved c =
    let row = c.edge_row.result in
    kept_behind _ (λ r. r.0) c.args.problem.now.edges c.loop-edge.edge row [] _ _ _
    c.in_ok-push-2.ensures.items
    (to_z-of_z w64 row.0 (record { sfits = omega (arith, c.edge_row.type_inv) }))
    c.loop-edge.invariant c.edge_row.ensures
