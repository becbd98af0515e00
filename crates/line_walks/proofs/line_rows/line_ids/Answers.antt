use Rattle.plan_num.proofs.Common.{◌∙◌, arith, w64, take_all}
use Rattle.std.proofs.lemmas.Int.{to_z-of_z}
use Rattle.walks.proofs.Common.{sorted_ids}
use Rattle.line_walks.proofs.RowsOfLines.{ids_more}
use Rattle.line_walks.proofs.line_rows.line_ids.Goals as goal

pub loop-i-preserved : goal.loop-i-preserved
loop-i-preserved g c = λ id.
    let read = to_z-of_z w64 c.cell.result (record { sfits = c.cell.type_inv }) ∙ c.cell.ensures in
    ids_more c.args.table.now c.loop-i.i _ id _ _ (omega arith) read
    (c.in_ok-insert.ensures.updates.0 id) (c.loop-i.invariant id)

pub returns-clause-rising : goal.returns-clause-rising
returns-clause-rising g c =
    let sorted = c.in_ok-sort.ensures in grind (arith, sorted_ids, take_all)
