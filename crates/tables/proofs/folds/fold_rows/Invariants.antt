-- None of the rows so far breaks a rule, and what is known is known of them.
use Rattle.plan_num.proofs.Common.{◌≡◌, [], take, drop}
use Rattle.tables.specs.Inputs.{row_faults}
use Rattle.tables.specs.RowsOfTables.{numbered_by, records_by}
use Rattle.tables.proofs.folds.fold_rows.Given as goal

abbrev pub invariant-loop-i : goal.invariant-loop-i
invariant-loop-i g l =
    let of = g.F.RowFold.of_cells in
    let rules = g.F.RowFold.rules l.fold l.fn.first in
    record {
      same : g.F.RowFold.rules l.fold l.made ≡ rules;
      knows : g.F.RowFold.Knows l.fold l.made (records_by of (take l.i l.table));
      sound : row_faults l.file rules (records_by of (take l.i l.table))
          (numbered_by of (drop l.i l.table)) ≡ row_faults l.file rules [] (numbered_by of l.table);
    }
