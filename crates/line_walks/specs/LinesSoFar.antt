-- What is known of the lines of a pool after some of its rows.
use Rattle.std.specs.Prelude.{ℕ, ℤ, pos, ◌++◌, List, [], ◌∷◌, map, unsigned_abs, Option, Some, None, option_and_then, unwrap_or}
use Rattle.std.specs.Option.{option_or}
use Rattle.tables.specs.Tables.{TableRow}
use Rattle.walks.specs.declared.edge.Edge.{Edge}
pub use Rattle.ptn_network.specs.Ids.{StandsAt}
use Rattle.walks.specs.Walks.{across, end_from}
use Rattle.line_walks.specs.declared.ends.Ends.{Ends}
use Rattle.line_walks.specs.declared.line_row.LineRow.{LineRow}
use Rattle.line_walks.specs.Pools.{LineParts, line_row, rows_of, edges_of, first_frequency, index_of, walk_of}

-- where the walks from either stop of the first edge end; without an edge there is none
abbrev pub ends_of : List Edge → Ends
ends_of [] = record { left = None; right = None }
ends_of (edge ∷ edges) = record { left = end_from edge.left (edge ∷ edges); right = end_from edge.right (edge ∷ edges) }

-- where the walks end after one edge more
abbrev pub next_ends : List Edge → Ends → Edge → Ends
next_ends [] ends edge = record { left = across edge edge.left; right = across edge edge.right }
next_ends (first ∷ edges) ends edge = record {
  left = option_and_then
      (across edge) ends.left;
  right = option_and_then (across edge) ends.right;
}

-- a line so far: its id, the indexes of its edges, these edges, where its walks end, and its
-- frequency
pub record LineEdges : Type 0 where
  pub id : ℤ
  pub indexes : List ℕ
  pub edges : List Edge
  pub ends : Ends
  pub frequency : Option ℤ

-- a line without rows
abbrev pub no_line : ℤ → LineEdges
no_line id = record { id = id; indexes = []; edges = []; ends = ends_of []; frequency = None }

-- a line with one edge more, by a row that has a frequency
abbrev pub with_edge : LineEdges → ℕ → Edge → ℤ → LineEdges
with_edge line index edge frequency = record {
  id = line.id;
  indexes = line.indexes ++ index ∷ [];
  edges = line.edges ++ edge ∷ [];
  ends = next_ends line.edges line.ends edge;
  frequency = option_or line.frequency (Some frequency);
}

-- a line after some rows
abbrev pub line_so_far : List Edge → List LineRow → ℤ → LineEdges
line_so_far edges rows id = record {
  id = id;
  indexes = map (λ row. index_of edges row.edge) (rows_of id rows);
  edges = edges_of edges id rows;
  ends = ends_of (edges_of edges id rows);
  frequency = first_frequency (rows_of id rows);
}

-- the whole line
abbrev pub whole_line : LineEdges → LineParts
whole_line line = record {
  id = line.id;
  edges = line.indexes;
  stops = unwrap_or (walk_of line.edges) [];
  frequency = unsigned_abs (unwrap_or line.frequency (pos 0));
}

-- the lines of the rows of a table, row by row
abbrev pub lines_in : List TableRow → List ℤ
lines_in rows = map (λ row. row.line) (map (λ row. line_row row.cells) rows)
