-- What is left of the columns makes the rest of the errors and of the cells.
use Rattle.std.proofs.Common.{◌≤◌, vec_len}
use Rattle.csv.specs.Records.{fields_of}
use Rattle.text_fields.specs.Rows.{cleaned}
use Rattle.tables.specs.InnerReading.{CellsLeft}
use Rattle.tables.proofs.row_cells.push_plain.Given as goal

abbrev pub invariant-loop-index : goal.invariant-loop-index
invariant-loop-index l =
    record {
      grows : vec_len l.initial.cells ≤ vec_len l.cells;
      left : CellsLeft l.kinds (cleaned (fields_of l.pieces)) l.index l.initial.cells.items l.cells.items;
    }
