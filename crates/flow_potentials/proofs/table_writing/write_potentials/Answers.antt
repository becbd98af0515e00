use Rattle.plan_num.proofs.Common.{◌≡◌, All, IfOk, sym, subst, refl, arith}
use Rattle.tables.proofs.Common.{potential_columns, table_text, plain_header}
use Rattle.flow_potentials.specs.PotentialTables.{potential_header, potentials_text, FitsColumns}
use Rattle.flow_potentials.proofs.TablesBack.{columns_written, rows_fit, written}
use Rattle.flow_potentials.proofs.table_writing.write_potentials.Goals as goal

pub write_table-requires : goal.write_table-requires
write_table-requires c = (
  omega arith,
  (
    omega arith,
    (
      omega arith,
      (
        omega arith,
        (
          columns_written,
          (
            subst (All FitsColumns) (sym c.in_ok-table.ensures.rows)
                (rows_fit c.args.potentials.now c.in_ok-table.ensures.are c.requires),
            (refl, plain_header potential_header refl),
          ),
        ),
      ),
    ),
  ),
)

pub returns-clause-text : goal.returns-clause-text
unfolding potentials_text
returns-clause-text c = subst (λ rows. IfOk c.write_table.result
    (λ text. text ≡ table_text potential_header potential_columns rows)) c.in_ok-table.ensures.rows
    c.write_table.ensures.text

pub returns-clause-back : goal.returns-clause-back
returns-clause-back c = written c.args.potentials.now c.in_ok-table.ensures.are c.in_ok-table.table
    c.in_ok-table.ensures.rows c.write_table.result c.write_table.ensures.back
