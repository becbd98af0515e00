-- The rows from here on tell whether the places are the same, and there are as many of each.
use Rattle.plan_num.proofs.Common.{◌≡◌, drop, length, map, int_eq, pointwise}
use Rattle.line_search.specs.PinnedConcepts.{places_of}
use Rattle.line_search.specs.PoolPlaces.{cells_of}
use Rattle.line_search.proofs.pool_rows.have_same_places.Given as goal

abbrev pub invariant-loop-row : goal.invariant-loop-row
invariant-loop-row l =
    record {
      so_far : pointwise (pointwise int_eq) (map cells_of l.rows) (places_of l.table)
          ≡ pointwise (pointwise int_eq) (map cells_of (drop l.row l.rows))
          (places_of (drop l.row l.table));
      long : length l.rows ≡ length l.table;
    }
