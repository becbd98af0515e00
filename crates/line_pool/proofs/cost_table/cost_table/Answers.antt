use Rattle.plan_num.proofs.Common.{◌∷◌, ◌++◌, [], ap, refl, ◌∙◌, to_z, w64, arith}
use Rattle.std.proofs.lemmas.Int.{to_z-of_z}
use Rattle.line_pool.proofs.CostRows.{row_more}
use Rattle.line_pool.proofs.cost_table.cost_table.Goals as goal

pub loop-line-preserved : goal.loop-line-preserved
loop-line-preserved c =
    let own = to_z-of_z w64 c.line_id.result (record { sfits = c.line_id.type_inv }) in
    row_more c.args.settings.now c.args.network.now.edges c.requires.settings c.args.pool.now
    c.loop-line.line c.line_id.result c.edges-edges.result.now c.length_of-length.result
    c.cost_of-cost.result (omega arith)
    c.line_id.ensures c.edges-edges.ensures c.length_of-length.ensures c.loop-line.table
    c.push.new.self (to_z w64 c.length_of-length.result)
    (to_z w64 c.cost_of-cost.result) c.requires.lines c.cost_of-cost.ensures refl refl
    c.loop-line.invariant
    (c.in_ok-push.ensures.ok ∙ ap (λ id. c.loop-line.table
    ++ record {
      number = 0;
      cells = id ∷ to_z w64 c.length_of-length.result ∷ to_z w64
          c.cost_of-cost.result ∷ [];
    } ∷ []) own)
