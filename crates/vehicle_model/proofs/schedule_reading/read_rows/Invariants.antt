-- The reader stands behind the rows so far.
use Rattle.event_tables.proofs.Common.{schedule_row}
use Rattle.tables.proofs.Common.{numbered_by}
use Rattle.vehicle_model.specs.Readers.{IsBehind}
use Rattle.vehicle_model.proofs.schedule_reading.read_rows.Given as goal

abbrev pub invariant-loop-i : goal.invariant-loop-i
invariant-loop-i l = IsBehind l.trips (numbered_by schedule_row l.table) l.i l.reader
