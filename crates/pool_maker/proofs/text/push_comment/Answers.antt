use Rattle.plan_num.proofs.Common.{◌++◌, ap, sym, ◌∙◌, of_z, to_z, w64}
use Rattle.std.proofs.lemmas.Int.{to_z-of_z}
use Rattle.pool_maker.proofs.UncoveredEdges.{comment_put}
use Rattle.pool_maker.proofs.text.push_comment.Goals as goal

pub returns-in_ok-extend_from_slice : goal.returns-in_ok-extend_from_slice
returns-in_ok-extend_from_slice c =
    let id = c.edge_id-id.result in
    let same = to_z-of_z w64 id (record { sfits = c.edge_id-id.type_inv }) in
    comment_put c.args.network.now c.args.lines.now c.args.edge c.args.bytes.now.items
    c.extend_from_slice.new.self.items c.in_ok-comment.comment.bytes.items (to_z w64 (of_z w64 id))
    (sym c.is_covered.ensures ∙ c.if-not-is_covered.true) (same ∙ c.edge_id-id.ensures)
    c.in_ok-comment.ensures.ok
    (c.in_ok-extend_from_slice.ensures.items
    ∙ ap (λ some. c.args.bytes.now.items ++ some) c.as_bytes.ensures.value)
