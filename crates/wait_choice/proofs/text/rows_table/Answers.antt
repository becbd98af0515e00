use Rattle.std.proofs.Common.{ℤ, List, ap}
use Rattle.tables.proofs.Common.{TableRow}
use Rattle.wait_choice.specs.declared.row.WaitRow.{WaitRow}
use Rattle.wait_choice.specs.declared.row.WaitRow.TheVariants as row
use Rattle.wait_choice.specs.WaitTexts.{wait_cells}
use Rattle.wait_choice.proofs.ListItems.{one_pushed}
use Rattle.wait_choice.proofs.text.rows_table.Goals as goal

abbrev table_row : List ℤ → TableRow
table_row cells = record { number = 0; cells = cells }

pub loop-row-preserved : goal.loop-row-preserved
loop-row-preserved c =
    one_pushed (λ (row : WaitRow). table_row (wait_cells row)) c.args.rows.now c.loop-row.row-index
    (row.Cost 0) c.loop-row.table c.push.new.self (table_row c.wait_cells.result)
    c.loop-row-test.true c.in_ok-push.ensures.ok c.loop-row.invariant (ap table_row c.wait_cells.ensures)
