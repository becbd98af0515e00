-- Two lists of rows, row by row.
use Rattle.plan_num.proofs.Common.{◌≡◌, ℕ, ◌+◌, ◌<◌, ◌&&◌, Bool, List, ◌∷◌, length, map, take, drop}
use Rattle.plan_num.proofs.Common.{get_or, ◌∙◌, int_eq, at_drop_more, pointwise}
use Rattle.tables.proofs.Common.{TableRow, no_row}
use Rattle.line_search.specs.declared.pool_rows.PlacedEdge.{PlacedEdge}
use Rattle.line_search.specs.PinnedConcepts.{places_of}
use Rattle.line_search.specs.PoolPlaces.{cells_of}

-- rows from a place on have the same lines, places and edges
abbrev pub same_from : List PlacedEdge → List TableRow → ℕ → ℕ → Bool
same_from rows table i j =
    pointwise (pointwise int_eq) (map cells_of (drop i rows)) (places_of (drop j table))

-- where the row there has, and those behind it
pub same_behind : (rows : List PlacedEdge) (table : List TableRow) (i : ℕ) (d : PlacedEdge)
    → i < length rows → i < length table → same_from rows table i i
    ≡ (pointwise int_eq (cells_of (get_or rows i d)) (take 3 (get_or table i no_row).cells)
    && same_from rows table (i + 1) (i + 1))
same_behind rows table i d there here =
    at_drop_more (λ rest. pointwise (pointwise int_eq) (map cells_of rest)
    (places_of (drop i table))) rows i d there
    ∙ at_drop_more (λ rest. pointwise (pointwise int_eq)
    (map cells_of (get_or rows i d ∷ drop (i + 1) rows)) (places_of rest)) table i no_row here
