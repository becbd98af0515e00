-- The rows of the files of a demo dataset.
use Rattle.std.specs.Prelude.{ℕ, ◌+◌, ◌*◌, ◌%◌, List, [], ◌∷◌, ◌++◌, codes, decimal}
use Rattle.std.specs.List.{flat_map, enumerate_from}
use Rattle.demo_dataset.specs.declared.edge.Edge.{Edge}
use Rattle.demo_dataset.specs.Grid.{LineWalk}

-- the text of a cell and of each further one behind "; ", and a line end
abbrev pub row_of : List ℕ → List (List ℕ) → List ℕ
row_of first others = first ++ flat_map (λ cell. codes "; " ++ cell) others ++ codes "\n"

-- a stop: its id, a short and a long name, and where it lies
abbrev pub stop_row : ℕ → List ℕ
stop_row id = row_of (decimal id) (codes "s" ∷ codes "s" ∷ codes "0" ∷ codes "0" ∷ [])

-- the least minutes that an edge takes, by its id
abbrev pub lower_bound : ℕ → ℕ
lower_bound id = 3 + id % 3

-- the customers from one end of an edge to the other, by its id
abbrev pub customers : ℕ → ℕ
customers id = 30 + 37 * id % 41

-- an edge: its id, its left and its right stop, its length, and the least and most minutes
abbrev pub edge_row : Edge → List ℕ
edge_row edge = row_of (decimal edge.id) (decimal edge.left ∷ decimal edge.right ∷ codes "1"
    ∷ decimal (lower_bound edge.id) ∷ decimal (lower_bound edge.id + 1) ∷ [])

-- demand: from which stop to which one, and how many customers
abbrev pub demand_row : (from to count : ℕ) → List ℕ
demand_row from to count = row_of (decimal from) (decimal to ∷ decimal count ∷ [])

-- the demand between the ends of an edge: from left to right, and back
abbrev pub demand_rows : Edge → List ℕ
demand_rows edge = demand_row edge.left edge.right (customers edge.id)
    ++ demand_row edge.right edge.left (customers edge.id)

-- an edge of a line: the line, its place from 1 on, and the edge
abbrev pub pool_row : (line order edge : ℕ) → List ℕ
pool_row line order edge = row_of (decimal line) (decimal order ∷ decimal edge ∷ [])

-- an edge of a line, behind its place
abbrev pub placed_row : (line : ℕ) → ℕ × Edge → List ℕ
placed_row line (order, edge) = pool_row line order edge.id

-- edges that a line runs over
abbrev pub walk_rows : (line : ℕ) → List Edge → List ℕ
walk_rows line edges = flat_map (placed_row line) (enumerate_from 1 edges)

-- a line, edge by edge
abbrev pub line_rows : LineWalk → List ℕ
line_rows line = walk_rows line.id line.edges
