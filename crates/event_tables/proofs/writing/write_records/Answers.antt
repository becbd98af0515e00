use Rattle.plan_num.proofs.Common.{ap, subst, sym, ◌∙◌, arith, All, take_all}
use Rattle.tables.proofs.Common.{InColumns, rows_by}
use Rattle.event_tables.proofs.WrittenRecords.{rows_inside, reads_as}
use Rattle.event_tables.proofs.writing.write_records.Goals as goal

pub write_table-requires : goal.write_table-requires
write_table-requires g c =
    let rows = c.args.rows.now in
    let cells_of = g.X.WrittenRecord.cells_of in
    let inside = rows_inside c.args.kinds.now g.X.Record.of_cells cells_of rows c.requires.cells in
    let is = c.loop-row.invariant
    ∙ ap (rows_by cells_of) (take_all c.loop-row.row-index rows (omega arith)) in (
      omega arith,
      (
        omega (arith, c.requires.narrow),
        (
          c.requires.some,
          (
            c.requires.narrow,
            (
              c.requires.kinds,
              (
                subst (All (λ row. InColumns c.args.kinds.now row.cells))
                    (sym is) inside,
                c.requires.header,
              ),
            ),
          ),
        ),
      ),
    )

pub returns-clause-back : goal.returns-clause-back
returns-clause-back g c =
    let rows = c.args.rows.now in
    let cells_of = g.X.WrittenRecord.cells_of in
    let is = c.loop-row.invariant
    ∙ ap (rows_by cells_of) (take_all c.loop-row.row-index rows (omega arith)) in
    reads_as c.args.kinds.now g.X.Record.of_cells cells_of rows c.requires.back c.loop-row.table is c.write_table.result
    c.write_table.ensures.back
