use Rattle.std.proofs.Common.{All, IfOk, arith, refl, sym, subst}
use Rattle.tables.proofs.Common.{TableRow, CanWrite, InColumns, ReadsBack, plain_header, rows_by}
use Rattle.wait_choice.specs.WaitTexts.{wait_cells, waits_columns, waits_header}
use Rattle.wait_choice.proofs.Printed.{columns_can, reads_again, table_fits}
use Rattle.wait_choice.proofs.text.rows_text.Goals as goal

pub write_table-requires : goal.write_table-requires
write_table-requires c =
    let is = sym c.waits_columns.ensures in
    let fit = subst (λ kinds. All (λ (row : TableRow). InColumns kinds row.cells) c.in_ok-table.table) is
    (subst (All (λ (row : TableRow). InColumns waits_columns row.cells)) (sym c.in_ok-table.ensures)
    (table_fits c.args.rows.now c.requires)) in (
      omega arith,
      (
        omega arith,
        (
          omega arith,
          (omega arith, (subst (All CanWrite) is columns_can, (fit, (refl, plain_header waits_header refl)))),
        ),
      ),
    )

pub returns-clause-back : goal.returns-clause-back
returns-clause-back c =
    reads_again c.args.rows.now c.write_table.result c.requires
    (subst (λ kinds. IfOk c.write_table.result (ReadsBack kinds (rows_by wait_cells c.args.rows.now)))
    c.waits_columns.ensures
    (subst (λ table. IfOk c.write_table.result (ReadsBack c.waits_columns.result table)) c.in_ok-table.ensures
    c.write_table.ensures.back))
