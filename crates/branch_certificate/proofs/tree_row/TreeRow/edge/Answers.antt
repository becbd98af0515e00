use Rattle.plan_num.proofs.Common.{position, ap, ◌∙◌, arith, w64, int_eq}
use Rattle.std.proofs.lemmas.Int.{to_z-of_z}
use Rattle.branch_certificate.proofs.tree_row.TreeRow.edge.Goals as goal

pub returns-clause-index : goal.returns-clause-index
returns-clause-index c =
    c.edge_index.ensures.index ∙ ap (λ id. position (int_eq id) c.args.ids.now.edges)
    (to_z-of_z w64 c.args.self.now.id (record { sfits = omega arith }))
