-- The rows so far, with those of the trips from here on, are all.
use Rattle.plan_num.proofs.Common.{◌≡◌, ◌+◌, ◌++◌, drop}
use Rattle.flow_potentials.specs.PotentialTables.{rows_from, potential_rows}
use Rattle.flow_potentials.proofs.table_writing.table_of.Given as goal

abbrev pub invariant-loop-trip : goal.invariant-loop-trip
invariant-loop-trip l =
    l.table ++ rows_from (l.trip + 1) (drop l.trip l.potentials.u) (drop l.trip l.potentials.v)
    ≡ potential_rows l.potentials
