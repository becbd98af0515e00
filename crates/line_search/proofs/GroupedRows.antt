-- The rows of a planner's concept, line by line.
use Rattle.plan_num.proofs.Common.{◌≡◌, ℤ, pos, Bool, List, [], ◌∷◌, ◌++◌, length, map, filter}
use Rattle.plan_num.proofs.Common.{get_or, take, All, refl, ap, sym, ◌∙◌, arith, flat_map, int_eq}
use Rattle.plan_num.proofs.Common.{length-map, map-append, All-head, All-tail, map-map, cases_Bool}
use Rattle.tables.proofs.Common.{TableRow, Wide}
use Rattle.walks.proofs.Common.{rising}
use Rattle.line_search.specs.declared.pool_rows.PlacedEdge.{PlacedEdge}
use Rattle.line_search.specs.PinnedConcepts.{by_lines, line_in, places_of}
use Rattle.line_search.specs.PoolPlaces.{cells_of, grouped, placed, plain_rows}
use Rattle.line_search.proofs.Grouped.{grouped_count}

filter_map_of : {X Y : Type 0} (f : X → Y) (p : Y → Bool) (xs : List X)
    → filter p (map f xs) ≡ map f (filter (λ x. p (f x)) xs)
filter_map_of f p [] = refl
filter_map_of f p (x ∷ xs) = grind (arith, cases_Bool, filter_map_of f p xs)

map_flat : {X Y : Type 0} (f : X → Y) (h : ℤ → List X) (ids : List ℤ)
    → map f (flat_map h ids) ≡ flat_map (λ id. map f (h id)) ids
map_flat f h [] = refl
map_flat f h (id ∷ ids) = map-append f (h id) (flat_map h ids)
    ∙ ap (λ rest. map f (h id) ++ rest) (map_flat f h ids)

pub grouped_map : {X Y : Type 0} (f : X → Y) (key : Y → ℤ) (xs : List X)
    → grouped key (map f xs) ≡ map f (grouped (λ x. key (f x)) xs)
grouped_map {X} {Y} f key xs = grind (arith, map-map, filter_map_of, map_flat)

filter_same : {X Y : Type 0} (f g : X → Y) (p : X → Bool) (xs : List X) → All (λ x. f x ≡ g x) xs
    → map f (filter p xs) ≡ map g (filter p xs)
filter_same f g p [] same = refl
filter_same f g p (x ∷ xs) same = grind (
  arith,
  All-tail,
  cases_Bool,
  All-head,
  filter_same f g p xs
      (All-tail (λ x. f x ≡ g x) x xs same),
)

-- functions that agree on items agree on their groups
grouped_same : {X Y : Type 0} (f g : X → Y) (key : X → ℤ) (xs : List X) → All (λ x. f x ≡ g x) xs
    → map f (grouped key xs) ≡ map g (grouped key xs)
grouped_same {X} {Y} f g key xs same =
    map_flat f (λ id. filter (λ x. int_eq id (key x)) xs) (rising (map key xs))
    ∙ ap (λ (h : ℤ → List Y). flat_map h (rising (map key xs)))
    (λ i id. filter_same f g (λ x. int_eq id (key x)) xs same i)
    ∙ sym (map_flat g (λ id. filter (λ x. int_eq id (key x)) xs) (rising (map key xs)))

-- ---- the rows of a planner's concept

three_cells : (cells : List ℤ) → length cells ≡ 4
    → get_or cells 0 (pos 0) ∷ get_or cells 1 (pos 0) ∷ get_or cells 2 (pos 0) ∷ [] ≡ take 3 cells
three_cells [] e = absurd (omega (arith, e))
three_cells (a ∷ []) e = absurd (omega (arith, e))
three_cells (a ∷ b ∷ []) e = absurd (omega (arith, e))
three_cells (a ∷ b ∷ d ∷ cells) e = refl

-- rows that were sorted by their lines are those of the table, line by line
pub places_sorted : (table : List TableRow) → Wide 4 table → (rows sorted : List PlacedEdge)
    → rows ≡ map placed table → sorted ≡ grouped (λ row. row.line) rows
    → map cells_of sorted ≡ places_of (by_lines (plain_rows table))
places_sorted table wide rows sorted are by_line =
    let line : TableRow → ℤ = λ row. get_or row.cells 0 (pos 0) in
    let plain : TableRow → TableRow = λ row. record { number = 0; cells = row.cells } in
    let cells : TableRow → List ℤ = λ row. cells_of (placed row) in
    let front : TableRow → List ℤ = λ row. take 3 row.cells in
    ap (map cells_of) (by_line ∙ ap (grouped (λ row. row.line)) are
    ∙ grouped_map placed (λ row. row.line) table)
    ∙ map-map cells_of placed (grouped line table)
    ∙ grouped_same cells front line table (λ k d h. three_cells (get_or table k d).cells
    (wide k d h))
    ∙ sym (ap places_of (grouped_map plain line_in table)
    ∙ map-map (λ (row : TableRow). take 3 row.cells) plain (grouped line table))

-- there are as many of them as rows in the table
pub places_count : (table : List TableRow)
    → length (places_of (by_lines (plain_rows table))) ≡ length table
places_count table =
    length-map (by_lines (plain_rows table)) (λ row. take 3 row.cells)
    ∙ grouped_count line_in (plain_rows table)
    ∙ length-map table (λ row. record { number = 0; cells = row.cells })
