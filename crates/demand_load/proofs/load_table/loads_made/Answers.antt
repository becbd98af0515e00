use Rattle.plan_num.proofs.Common.{refl, arith, subst, sym, All}
use Rattle.tables.proofs.Common.{load_columns, InColumns, plain_header, columns_written}
use Rattle.demand_load.specs.LoadTables.{load_header}
use Rattle.demand_load.proofs.LoadRows.{rows_in_columns}
use Rattle.demand_load.proofs.load_table.loads_made.Goals as goal

pub write_table-requires : goal.write_table-requires
write_table-requires c =
    let rows = rows_in_columns c.args.network.now.edges c.args.loads.now c.requires.ids
    c.requires.bounded c.requires.rare in (
      omega arith,
      (
        omega arith,
        (
          omega arith,
          (
            omega arith,
            (
              columns_written load_columns refl,
              (
                subst (All (λ row. InColumns load_columns row.cells))
                    (sym c.in_ok-table.ensures) rows,
                (refl, plain_header load_header refl),
              ),
            ),
          ),
        ),
      ),
    )
