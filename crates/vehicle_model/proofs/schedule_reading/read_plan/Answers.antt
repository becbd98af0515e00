use Rattle.plan_num.proofs.Common.{Err, err_from_is_err_and}
use Rattle.tables.proofs.Common.{schedule_columns, table_of}
use Rattle.vehicle_model.specs.PlanFaults.{fault_of}
use Rattle.vehicle_model.proofs.Driven.{reads_driven}
use Rattle.vehicle_model.proofs.PlanTexts.{no_table, small_table, rows_read}
use Rattle.vehicle_model.proofs.schedule_reading.read_plan.Goals as goal

pub returns-in_err-table-clause-read : goal.returns-in_err-table-clause-read
returns-in_err-table-clause-read c =
    let p = err_from_is_err_and c.from_residual.result c.from_residual.ensures.1 in
    rw (p.1, p.2) (no_table c.args.trips.now c.args.bytes.now
    (table_of schedule_columns c.args.bytes.now) c.in_err-table.field-0.0 c.in_err-table.ensures)

pub read_rows-requires : goal.read_rows-requires
read_rows-requires c =
    small_table c.args.bytes.now c.in_ok-table.table c.in_ok-table.ensures.0 c.in_ok-table.ensures.1

pub returns-clause-read : goal.returns-clause-read
returns-clause-read c = rows_read c.args.trips.now c.args.bytes.now c.in_ok-table.table c.in_ok-table.ensures.0
    c.in_ok-table.ensures.1 c.read_rows.result c.read_rows.ensures.read

pub returns-clause-driven : goal.returns-clause-driven
returns-clause-driven c = reads_driven c.args.trips.now c.are_trips.ensures c.args.bytes.now c.read_rows.result
    (rows_read c.args.trips.now c.args.bytes.now c.in_ok-table.table c.in_ok-table.ensures.0
    c.in_ok-table.ensures.1 c.read_rows.result c.read_rows.ensures.read)

pub returns-in_err-table-clause-driven : goal.returns-in_err-table-clause-driven
returns-in_err-table-clause-driven c =
    let p = err_from_is_err_and c.from_residual.result c.from_residual.ensures.1 in
    rw (p.1, p.2) (reads_driven c.args.trips.now c.are_trips.ensures c.args.bytes.now
    (Err (fault_of c.in_err-table.field-0.0))
    (no_table c.args.trips.now c.args.bytes.now
    (table_of schedule_columns c.args.bytes.now) c.in_err-table.field-0.0 c.in_err-table.ensures))
