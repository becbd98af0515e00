-- The rows from here on tell whether the tables have the same cells, and both have as many rows.
use Rattle.plan_num.proofs.Common.{◌≡◌, drop, length}
use Rattle.line_search.specs.Judged.{same_cells}
use Rattle.line_search.proofs.concept_table.have_same_cells.Given as goal

abbrev pub invariant-loop-row : goal.invariant-loop-row
invariant-loop-row l =
    record {
      so_far : same_cells l.table l.other ≡ same_cells (drop l.row l.table) (drop l.row l.other);
      long : length l.table ≡ length l.other;
    }
