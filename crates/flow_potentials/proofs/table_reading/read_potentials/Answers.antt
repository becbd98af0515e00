use Rattle.plan_num.proofs.Common.{err_from_is_err_and}
use Rattle.tables.proofs.Common.{potential_columns, table_of}
use Rattle.flow_potentials.proofs.TablesBack.{no_table, rows_read, table_fits}
use Rattle.flow_potentials.proofs.table_reading.read_potentials.Goals as goal

pub returns-in_err-table-clause-read : goal.returns-in_err-table-clause-read
returns-in_err-table-clause-read c =
    let p = err_from_is_err_and c.from_residual.result c.from_residual.ensures.1 in
    rw (p.1, p.2) (no_table c.args.trips c.args.bytes.now (table_of potential_columns c.args.bytes.now)
    c.in_err-table.field-0.0 c.in_err-table.ensures)

pub read_rows-requires : goal.read_rows-requires
read_rows-requires c = table_fits c.args.bytes.now c.in_ok-table.table c.in_ok-table.ensures.0
    c.in_ok-table.ensures.1

pub returns-clause-read : goal.returns-clause-read
returns-clause-read c = rows_read c.args.trips c.args.bytes.now c.in_ok-table.table
    c.in_ok-table.ensures.0 c.in_ok-table.ensures.1 c.read_rows.result c.read_rows.ensures.read
