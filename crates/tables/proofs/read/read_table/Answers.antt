use Rattle.plan_num.proofs.Common.{arith, err_from_is_err_and}
use Rattle.tables.specs.Reading.{table_of}
use Rattle.tables.proofs.FirstFaults.{no_mark}
use Rattle.tables.proofs.FirstFaults.{row_ends, mark_first, table_is}
use Rattle.tables.proofs.read.read_table.Goals as goal

pub returns-in_err-rows : goal.returns-in_err-rows
returns-in_err-rows g c =
    let p = err_from_is_err_and c.from_residual.result c.from_residual.ensures.1 in grind (
      arith,
      mark_first,
    )

pub rows-init : goal.rows-init
rows-init g c = record {
  faults_left = grind (arith, no_mark);
  rows_left = grind (arith, table_is);
}

pub returns-in_err-read_row : goal.returns-in_err-read_row
returns-in_err-read_row g c =
    let next = rw c.if-branch.true at c.in_ok-next_row.ensures in
    let p = err_from_is_err_and c.from_residual-in_err-read_row.result
    c.from_residual-in_err-read_row.ensures.1 in
    rw (p.1, p.2) (row_ends c.args.kinds.now c.next_row.new.row c.next_row.new.self _ c.rows.table
    c.read_row.new.self (table_of c.args.kinds.now c.args.bytes.now) _
    (rw next at c.rows.invariant.faults_left) c.in_err-read_row.ensures)
