-- The network of a demo dataset: stops in rows and columns of a square, edges between neighbours,
-- and lines. Rows and columns are counted from 1, and the size is how many there are of each.
use Rattle.std.specs.Prelude.{ℕ, ◌+◌, ◌-◌, ◌*◌, nat_le, if◌then◌else◌}
use Rattle.std.specs.Prelude.{List, [], ◌∷◌, ◌++◌, map}
use Rattle.std.specs.List.{range_with_len, flat_map}
use Rattle.demo_dataset.specs.declared.edge.Edge.{Edge}

-- the numbers from 1 to a last one
abbrev pub one_to : ℕ → List ℕ
one_to last = range_with_len 1 last

-- the id of the stop in a row and a column
abbrev pub stop_id : (size row column : ℕ) → ℕ
stop_id size row column = (row - 1) * size + column

-- the edge from the stop in a row and a column to the next one in that row
abbrev pub edge_right : (size row column : ℕ) → Edge
edge_right size row column = record {
  id = (row - 1) * (size - 1) + column;
  left = stop_id size row column;
  right = stop_id size row (column + 1);
}

-- the edge from the stop in a row and a column to the next one in that column
abbrev pub edge_down : (size column row : ℕ) → Edge
edge_down size column row = record {
  id = size * (size - 1) + (column - 1) * (size - 1) + row;
  left = stop_id size row column;
  right = stop_id size (row + 1) column;
}

-- the edges along a row, from left to right
abbrev pub row_edges : (size row : ℕ) → List Edge
row_edges size row = map (edge_right size row) (one_to (size - 1))

-- the edges down a column, from the first row to the last
abbrev pub column_edges : (size column : ℕ) → List Edge
column_edges size column = map (edge_down size column) (one_to (size - 1))

-- all edges, in the order of their ids
abbrev pub edges_of : (size : ℕ) → List Edge
edges_of size =
    flat_map (row_edges size) (one_to size) ++ flat_map (column_edges size) (one_to size)

-- a line: the edges that it runs over, in order
pub record LineWalk : Type 0 where
  pub id : ℕ
  pub edges : List Edge

-- the line along a row
abbrev pub row_line : (size row : ℕ) → LineWalk
row_line size row = record { id = row; edges = row_edges size row }

-- the line down a column
abbrev pub column_line : (size column : ℕ) → LineWalk
column_line size column = record { id = size + column; edges = column_edges size column }

-- the line along the first row, and then down the last column
abbrev pub right_first_line : (size : ℕ) → LineWalk
right_first_line size =
    record { id = 2 * size + 1; edges = row_edges size 1 ++ column_edges size size }

-- the line down the first column, and then along the last row
abbrev pub down_first_line : (size : ℕ) → LineWalk
down_first_line size =
    record { id = 2 * size + 2; edges = column_edges size 1 ++ row_edges size size }

-- all lines; a single stop has none
abbrev pub lines_of : (size : ℕ) → List LineWalk
lines_of size =
    if nat_le 2 size
    then map (row_line size) (one_to size) ++ map (column_line size) (one_to size)
    ++ right_first_line size ∷ down_first_line size ∷ []
    else []
