-- The table has the rows of the records so far.
use Rattle.plan_num.proofs.Common.{◌≡◌, take}
use Rattle.tables.proofs.Common.{rows_by}
use Rattle.event_tables.proofs.writing.write_records.Given as goal

abbrev pub invariant-loop-row : goal.invariant-loop-row
invariant-loop-row g l = l.table ≡ rows_by g.X.WrittenRecord.cells_of (take l.row-index l.rows)
