-- The rows so far are those of the trips so far.
use Rattle.plan_num.proofs.Common.{◌≡◌, ◌≤◌, take, drop}
use Rattle.flow_potentials.specs.PotentialTables.{gaps_from, column_of}
use Rattle.flow_potentials.proofs.table_reading.read_rows.Given as goal

abbrev pub invariant-loop-row : goal.invariant-loop-row
invariant-loop-row l = record {
  gaps : gaps_from l.trips 0 l.table ≡ gaps_from l.trips l.row (drop l.row l.table);
  few : l.row ≤ l.trips;
  u : l.u.items ≡ column_of 1 (take l.row l.table);
  v : l.v.items ≡ column_of 2 (take l.row l.table);
}
