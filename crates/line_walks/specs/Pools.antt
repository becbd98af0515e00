-- Lines over a network, in a pool or in a line concept: their file, its rules, and each line as a
-- walk.
use Rattle.std.specs.Prelude.{ℕ, ℤ, pos, ◌≡◌, ◌+◌, ◌≤◌, ◌<◌, ◌≤ℤ◌, nat_eq, Bool, false, not, is_some, List, [], ◌∷◌, ◌++◌, length, map, filter, filter_map, get_or, position, unsigned_abs, Option, Some, None, option_map, option_and_then, unwrap_or}
use Rattle.std.specs.List.{All, IsDistinct, list_any}
use Rattle.std.specs.List.Sorted.{IsStrictlySortedBy}
use Rattle.std.specs.Ordering.{int_eq, int_cmp}
use Rattle.tables.specs.declared.column.ColumnKind.{ColumnKind}
use Rattle.tables.specs.declared.counted.Counted.TheVariants as counted
use Rattle.tables.specs.declared.file_id.FileId.{FileId}
use Rattle.tables.specs.declared.file_id.FileId.TheVariants as file
use Rattle.tables.specs.declared.row_why.RowWhy.TheVariants as why
use Rattle.tables.specs.declared.refusal.Refusal.{Refusal}
use Rattle.tables.specs.Columns.{pool_columns, concept_columns}
use Rattle.tables.specs.Inputs.{Input, Limit, RowRule, records_of, input_faults}
use Rattle.walks.specs.declared.edge.Edge.{Edge}
use Rattle.ptn_network.specs.Ids.{known_edge}
pub use Rattle.ptn_network.specs.Ids.{edge_with}
use Rattle.walks.specs.Networks.{NetworkParts}
use Rattle.walks.specs.RisingIds.{rising}
use Rattle.walks.specs.Paths.{edges_at}
use Rattle.walks.specs.Walks.{across}
use Rattle.line_walks.specs.declared.line_file.LineFile.{LineFile}
use Rattle.line_walks.specs.declared.line_file.LineFile.TheVariants as kind
use Rattle.line_walks.specs.declared.line_row.LineRow.{LineRow}

-- a row: a line, a place in it, the edge there, and the frequency of the line; a pool has no column
-- of frequencies, and so each is 0
abbrev pub line_row : List ℤ → LineRow
line_row cells = record {
  line = get_or cells 0 (pos 0);
  order = get_or cells 1 (pos 0);
  edge = get_or cells 2 (pos 0);
  frequency = get_or cells 3 (pos 0);
}

-- the rows of a line
abbrev pub rows_of : ℤ → List LineRow → List LineRow
rows_of line rows = filter (λ row. int_eq line row.line) rows

-- the edges of the rows of a line, in their order
abbrev pub edges_of : List Edge → ℤ → List LineRow → List Edge
edges_of edges line rows = filter_map (λ row. edge_with edges row.edge) (rows_of line rows)

-- the stops of the walk over edges from a stop, where the edges join end to end from there
unfoldable pub walk_from : ℕ → List Edge → Option (List ℕ)
walk_from stop [] = Some (stop ∷ [])
walk_from stop (edge ∷ edges) = option_and_then
    (λ next. option_map (λ stops. stop ∷ stops) (walk_from next edges)) (across edge stop)

-- one walk, or else another
abbrev pub or_walk : Option (List ℕ) → Option (List ℕ) → Option (List ℕ)
or_walk None other = other
or_walk (Some stops) other = Some stops

-- the walk of a line: from the left stop of its first edge where a whole walk goes from there, and
-- otherwise from the right one
abbrev pub walk_of : List Edge → Option (List ℕ)
walk_of [] = Some []
walk_of (edge ∷ edges) = or_walk (walk_from edge.left (edge ∷ edges)) (walk_from edge.right (edge ∷ edges))

-- the rule that a row's place is one more than the number of rows of its line before it
abbrev pub next_place : RowRule LineRow
next_place = record {
  is_broken = λ before row. not
      (int_eq row.order (pos (length (rows_of row.line before) + 1)));
  why = why.OrderGap;
}

-- the rule that a line has an edge once
abbrev pub new_edge : RowRule LineRow
new_edge = record {
  is_broken = λ before row. list_any (λ other. int_eq row.edge other.edge)
      (rows_of row.line before);
  why = why.RepeatedEdge;
}

-- the rule that a walk goes over the edges of a line so far
abbrev pub joined_edges : List Edge → RowRule LineRow
joined_edges edges = record {
  is_broken = λ before row. not
      (is_some (walk_of (edges_of edges row.line (before ++ row ∷ []))));
  why = why.BrokenLine;
}

-- the frequency of some rows: that of the first of them
abbrev pub first_frequency : List LineRow → Option ℤ
first_frequency [] = None
first_frequency (row ∷ rows) = Some row.frequency

-- a frequency is another one than one that is told
abbrev pub differs : ℤ → Option ℤ → Bool
differs frequency None = false
differs frequency (Some first) = not (int_eq frequency first)

-- the rule that a row has the frequency of its line's first row
abbrev pub one_frequency : RowRule LineRow
one_frequency = record {
  is_broken = λ before row. differs row.frequency (first_frequency (rows_of row.line before));
  why = why.FrequencyDiffers;
}

-- the limit of the number of different lines
abbrev pub line_limit : Limit LineRow
line_limit = record {
  what = counted.Lines;
  most = 200;
  count = λ rows. length (rising (map (λ row. row.line) rows));
}

-- the file of a refusal, and the columns of its rows
abbrev pub file_of : LineFile → FileId
file_of kind.Pool = file.Pool
file_of kind.Concept = file.Concept

abbrev pub columns_of : LineFile → List ColumnKind
columns_of kind.Pool = pool_columns
columns_of kind.Concept = concept_columns

-- the rules of a row, in their order; that of frequencies is never broken in a pool
abbrev pub line_rules : List Edge → List (RowRule LineRow)
line_rules edges =
    known_edge (λ row. row.edge) edges ∷ next_place ∷ new_edge ∷ joined_edges edges ∷ one_frequency ∷ []

-- a file of lines over the edges of a network
abbrev pub line_input : LineFile → List Edge → Input LineRow
line_input kind edges = record {
  file = file_of kind;
  columns = columns_of kind;
  read = line_row;
  limits = line_limit ∷ [];
  row_rules = line_rules edges;
  table_rules = [];
}

-- a line: its id, the indexes of its edges, the stops of its walk, and its frequency
pub record LineParts : Type 0 where
  pub id : ℤ
  pub edges : List ℕ
  pub stops : List ℕ
  pub frequency : ℕ

-- the index of an edge in a network
abbrev pub index_of : List Edge → ℤ → ℕ
index_of edges id = unwrap_or (position (λ edge. int_eq id edge.id) edges) 0

-- the line of an id, from rows
abbrev pub line_of : List Edge → List LineRow → ℤ → LineParts
line_of edges rows id = record {
  id = id;
  edges = map (λ row. index_of edges row.edge) (rows_of id rows);
  stops = unwrap_or (walk_of (edges_of edges id rows)) [];
  frequency = unsigned_abs (unwrap_or (first_frequency (rows_of id rows)) (pos 0));
}

-- the lines of rows, by id rising
abbrev pub lines_over : List Edge → List LineRow → List LineParts
lines_over edges rows = map (line_of edges rows) (rising (map (λ row. row.line) rows))

-- the lines of a text over a network, and every fault of that text in order
unfoldable pub lines_of : LineFile → NetworkParts → List ℕ → List LineParts
lines_of kind network text = lines_over network.edges (records_of (line_input kind network.edges) text)

unfoldable pub line_faults : LineFile → NetworkParts → List ℕ → List Refusal
line_faults kind network text = input_faults (line_input kind network.edges) text

-- those of a pool
abbrev pub pool_of : NetworkParts → List ℕ → List LineParts
pool_of network text = lines_of kind.Pool network text

abbrev pub pool_faults : NetworkParts → List ℕ → List Refusal
pool_faults network text = line_faults kind.Pool network text

-- and of a line concept
abbrev pub concept_of : NetworkParts → List ℕ → List LineParts
concept_of network text = lines_of kind.Concept network text

abbrev pub concept_faults : NetworkParts → List ℕ → List Refusal
concept_faults network text = line_faults kind.Concept network text

-- what holds of a line over the edges of a network: an id, edges of the network, each once, whose
-- walk its stops are, and a frequency
pub record IsLine (edges : List Edge) (line : LineParts) : Type 0 where
  pub id_least : pos 1 ≤ℤ line.id
  pub id_greatest : line.id ≤ℤ pos 1000000000
  pub some : 1 ≤ length line.edges
  pub apart : IsDistinct nat_eq line.edges
  pub there : All (λ index. index < length edges) line.edges
  pub walk : walk_of (edges_at edges line.edges) ≡ Some line.stops
  pub stops : length line.stops ≡ length line.edges + 1
  pub frequency : line.frequency ≤ 1000

-- what holds of the lines of a text without a fault: ids rise, and there are not too many lines
pub record AreLines (edges : List Edge) (lines : List LineParts) : Type 0 where
  pub rise : IsStrictlySortedBy int_cmp (map (λ line. line.id) lines)
  pub few : length lines ≤ 200
  pub each : All (IsLine edges) lines
