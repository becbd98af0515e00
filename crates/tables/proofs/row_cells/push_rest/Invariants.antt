-- What is left of the columns makes the rest of the errors and of the cells.
use Rattle.std.proofs.Common.{◌≡◌, ◌≤◌, ◌+◌, ◌++◌, drop, vec_len}
use Rattle.tables.specs.Reading.{cells_from, errors, values}
use Rattle.tables.proofs.row_cells.push_rest.Given as goal

abbrev pub invariant-loop-index : goal.invariant-loop-index
invariant-loop-index l =
    record {
      grows : vec_len l.initial.cells ≤ vec_len l.cells;
      errors_left : errors (cells_from (l.index + 1) (drop l.index l.kinds)
          (drop l.index l.row.fields)) ≡ errors (cells_from (l.from + 1) (drop l.from l.kinds)
          (drop l.from l.row.fields));
      cells_left : l.cells.items ++ values (cells_from (l.index + 1) (drop l.index l.kinds)
          (drop l.index l.row.fields)) ≡ l.initial.cells.items
          ++ values (cells_from (l.from + 1) (drop l.from l.kinds) (drop l.from l.row.fields));
    }
