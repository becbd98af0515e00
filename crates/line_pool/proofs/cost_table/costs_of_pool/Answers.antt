use Rattle.plan_num.proofs.Common.{refl, arith, subst, sym, All}
use Rattle.tables.proofs.Common.{pool_cost_columns, InColumns, plain_header, columns_written}
use Rattle.line_pool.specs.CostStage.{cost_header}
use Rattle.line_pool.proofs.CostRows.{rows_in_columns}
use Rattle.line_pool.proofs.cost_table.costs_of_pool.Goals as goal

pub write_table-requires : goal.write_table-requires
write_table-requires c =
    let rows = rows_in_columns c.args.settings.now c.args.network.now.edges c.requires.settings
    c.args.pool.now c.requires.lines in (
      omega arith,
      (
        omega arith,
        (
          omega arith,
          (
            omega arith,
            (
              columns_written pool_cost_columns refl,
              (
                subst (All (λ row. InColumns pool_cost_columns row.cells)) (sym c.in_ok-table.ensures) rows,
                (refl, plain_header cost_header refl),
              ),
            ),
          ),
        ),
      ),
    )
