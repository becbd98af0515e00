use Rattle.plan_num.proofs.Common.{Some, ap, sym, ◌∙◌, arith, to_z, of_z, w64, list_any, int_eq}
use Rattle.std.proofs.lemmas.Int.{to_z-of_z}
use Rattle.line_walks.proofs.LineIds.{is_there, not_yet}
use Rattle.line_walks.proofs.given_costs.has_line.Goals as goal

pub returns-then-has_id : goal.returns-then-has_id
returns-then-has_id c =
    let own = to_z-of_z w64 c.args.id c.ranges.id in
    sym (is_there c.args.pool.now (to_z w64 (of_z w64 c.args.id)) c.loop-line.line (omega arith)
    (c.has_id.ensures ∙ ap Some c.if-has_id.true))
    ∙ ap (λ id. list_any (λ line. int_eq id line.id) c.args.pool.now) own

pub loop-line-preserved : goal.loop-line-preserved
loop-line-preserved c =
    not_yet c.args.pool.now (to_z w64 (of_z w64 c.args.id)) c.loop-line.line (omega arith)
    c.loop-line.invariant (c.has_id.ensures ∙ ap Some c.if-has_id.false)
