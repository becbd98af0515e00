-- Inner words: the rows of a planner's concept while they are compared with the pool.
use Rattle.std.specs.Prelude.{ℤ, pos, List, [], ◌∷◌, map, filter, get_or}
use Rattle.std.specs.List.{flat_map}
use Rattle.std.specs.Ordering.{int_eq}
use Rattle.tables.specs.Tables.{TableRow}
use Rattle.walks.specs.RisingIds.{rising}
use Rattle.line_search.specs.declared.pool_rows.PlacedEdge.{PlacedEdge}

-- items one group after the other, by keys rising, each group in the order that it had
abbrev pub grouped : {X : Type 0} → (X → ℤ) → List X → List X
grouped key items =
    flat_map (λ id. filter (λ item. int_eq id (key item)) items) (rising (map key items))

-- the line, the place and the edge of a row
abbrev pub placed : TableRow → PlacedEdge
placed row = record {
  line = get_or row.cells 0 (pos 0);
  order = get_or row.cells 1 (pos 0);
  edge = get_or row.cells 2 (pos 0);
}

-- as cells
abbrev pub cells_of : PlacedEdge → List ℤ
cells_of at = at.line ∷ at.order ∷ at.edge ∷ []

-- the rows of a table as those of a planner's concept, which have no numbers
abbrev pub plain_rows : List TableRow → List TableRow
plain_rows rows = map (λ row. record { number = 0; cells = row.cells }) rows
