use Rattle.plan_num.proofs.Common.{All, arith, refl, subst, sym}
use Rattle.tables.proofs.Common.{pool_columns, InColumns, columns_written}
use Rattle.pool_maker.proofs.RowsInside.{header_plain, rows_inside}
use Rattle.pool_maker.proofs.text.text_of_lines.Goals as goal

pub write_table-requires : goal.write_table-requires
write_table-requires c =
    let inside = rows_inside c.args.network.now c.args.lines.now c.requires in
    let rows = subst (All (λ row. InColumns pool_columns row.cells)) (sym c.in_ok-table.ensures)
    inside in (
      omega arith,
      (
        omega arith,
        (
          omega arith,
          (omega arith, (columns_written pool_columns refl, (rows, header_plain))),
        ),
      ),
    )
