-- The files of stops and of edges, and their rules.
use Rattle.std.specs.Prelude.{ℤ, pos, ◌||◌, List, [], ◌∷◌, get_or, int_lt}
use Rattle.std.specs.Ordering.{int_eq}
use Rattle.tables.specs.declared.counted.Counted.TheVariants as counted
use Rattle.tables.specs.declared.file_id.FileId.TheVariants as file
use Rattle.tables.specs.declared.row_why.RowWhy.TheVariants as why
use Rattle.tables.specs.Columns.{stop_columns, edge_columns}
use Rattle.tables.specs.Inputs.{Input, RowRule, row_limit, own_id}
use Rattle.ptn_network.specs.declared.edge_row.EdgeRow.{EdgeRow}
use Rattle.ptn_network.specs.Ids.{known_stops}

-- the id of the stop of a row
abbrev pub stop_row : List ℤ → ℤ
stop_row cells = get_or cells 0 (pos 0)

-- the file of stops, each of which is its id
abbrev pub stop_input : Input ℤ
stop_input = record {
  file = file.Stop;
  columns = stop_columns;
  read = stop_row;
  limits = row_limit counted.Stops 1000 ∷ [];
  row_rules = own_id (λ id. id) ∷ [];
  table_rules = [];
}

-- the edge of a row
abbrev pub edge_row : List ℤ → EdgeRow
edge_row cells = record {
  id = get_or cells 0 (pos 0);
  left = get_or cells 1 (pos 0);
  right = get_or cells 2 (pos 0);
  length = get_or cells 3 (pos 0);
  lower = get_or cells 4 (pos 0);
  upper = get_or cells 5 (pos 0);
}

-- the rule that the ends differ
abbrev pub two_ends : RowRule EdgeRow
two_ends = record { is_broken = λ _ row. int_eq row.left row.right; why = why.LoopEdge }

-- the rule that an edge has a length, and that a drive takes time
abbrev pub some_length : RowRule EdgeRow
some_length = record {
  is_broken = λ _ row. int_eq row.length (pos 0) || int_eq row.lower (pos 0);
  why = why.ZeroBound;
}

-- the rule that the greatest time of a drive is not below the least one
abbrev pub bounds_in_order : RowRule EdgeRow
bounds_in_order = record {
  is_broken = λ _ row. int_lt row.upper row.lower;
  why = why.BoundsCrossed;
}

-- the rules of an edge by itself, in their order
abbrev pub own_rules : List (RowRule EdgeRow)
own_rules = two_ends ∷ some_length ∷ bounds_in_order ∷ []

-- the rules of an edge in their order, over the ids of the stops
abbrev pub edge_rules : List ℤ → List (RowRule EdgeRow)
edge_rules stops =
    own_id (λ row. row.id) ∷ known_stops (λ row. row.left) (λ row. row.right) stops ∷ own_rules

-- the file of edges over the ids of the stops
abbrev pub edge_input : List ℤ → Input EdgeRow
edge_input stops = record {
  file = file.Edge;
  columns = edge_columns;
  read = edge_row;
  limits = row_limit counted.Edges 1000 ∷ [];
  row_rules = edge_rules stops;
  table_rules = [];
}
