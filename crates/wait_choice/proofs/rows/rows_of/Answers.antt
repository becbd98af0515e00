use Rattle.std.proofs.Common.{arith}
use Rattle.tables.proofs.Common.{TableRow, no_row}
use Rattle.wait_choice.specs.WaitTexts.{wait_row}
use Rattle.wait_choice.proofs.ListItems.{one_pushed}
use Rattle.wait_choice.proofs.rows.rows_of.Goals as goal

pub loop-row-preserved : goal.loop-row-preserved
loop-row-preserved c =
    one_pushed (λ (row : TableRow). wait_row row.cells) c.args.table.now c.loop-row.row no_row c.loop-row.rows.items
    c.push.new.self.items c.row_in.result
    (omega (arith, c.loop-row-test.true, c.len-row-end.ensures.len)) c.in_ok-push.ensures.items c.loop-row.invariant
    c.row_in.ensures
