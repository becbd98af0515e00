-- Stops and edges by their ids: the rules of rows that name them.
use Rattle.std.specs.Prelude.{ℕ, ℤ, ◌≡◌, Bool, ◌||◌, not, is_some, List, position, Option, Some}
use Rattle.std.specs.List.{list_any, find}
use Rattle.std.specs.Ordering.{int_eq}
use Rattle.tables.specs.declared.row_why.RowWhy.TheVariants as why
use Rattle.tables.specs.Inputs.{RowRule}
use Rattle.walks.specs.declared.edge.Edge.{Edge}

-- a stop that is not there
abbrev pub is_unknown : List ℤ → ℤ → Bool
is_unknown stops id = not (list_any (int_eq id) stops)

-- the rule that both stops of a row are there
abbrev pub known_stops : {Row : Type 0} → (Row → ℤ) → (Row → ℤ) → List ℤ → RowRule Row
known_stops left right stops = record {
  is_broken = λ _ row. is_unknown stops (left row) || is_unknown stops (right row);
  why = why.UnknownStop;
}

-- the edge of an id
abbrev pub edge_with : List Edge → ℤ → Option Edge
edge_with edges id = find (λ edge. int_eq id edge.id) edges

-- the edge of an id stands at an index
abbrev pub StandsAt : List Edge → ℤ → ℕ → Type 0
StandsAt edges id index = position (λ edge. int_eq id edge.id) edges ≡ Some index

-- the rule that the edge of a row is there
abbrev pub known_edge : {Row : Type 0} → (Row → ℤ) → List Edge → RowRule Row
known_edge id edges = record {
  is_broken = λ _ row. not (is_some (edge_with edges (id row)));
  why = why.UnknownEdge;
}
