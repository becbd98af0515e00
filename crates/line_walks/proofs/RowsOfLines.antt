-- Lines and their rows, one row of a pool after the other.
use Rattle.plan_num.proofs.Common.{◌≡◌, ℕ, ℤ, pos, ◌+◌, ◌<◌, Bool, true, false, not, ◌||◌, ◌&&◌}
use Rattle.plan_num.proofs.Common.{cond, List, [], ◌∷◌, ◌++◌, length, map, get_or, set, take}
use Rattle.plan_num.proofs.Common.{slice_get, position, refl, ap, subst, sym, ◌∙◌, arith, Option}
use Rattle.plan_num.proofs.Common.{Some, None, is_some, unwrap_or, inl, inr, ◌≢◌, list_any}
use Rattle.plan_num.proofs.Common.{filter_map, cons_option, IsDistinct, option_or, int_eq}
use Rattle.plan_num.proofs.Common.{Decides-int_eq, cases_order, position-Some, apart_from_distinct}
use Rattle.plan_num.proofs.Common.{int_eq_equiv, append-nil, map_push, length-map, length-set}
use Rattle.plan_num.proofs.Common.{take_more, same_lists, get_or-map, get_or-set_same}
use Rattle.plan_num.proofs.Common.{get_or-set_other, filter-append, filter_map-append}
use Rattle.plan_num.proofs.Common.{list_any-append, list_any_at}
use Rattle.tables.specs.declared.row_why.RowWhy.{RowWhy}
use Rattle.tables.proofs.Common.{broken_whys, TableRow, no_row, cell_at}
use Rattle.tables.specs.declared.row_why.RowWhy.TheVariants as why
use Rattle.walks.specs.declared.edge.Edge.{Edge}
use Rattle.line_walks.specs.declared.ends.Ends.{Ends}
use Rattle.line_walks.specs.declared.line_row.LineRow.{LineRow}
use Rattle.line_walks.specs.Pools.{line_row, edge_with, index_of, rows_of, edges_of, walk_of, line_rules, first_frequency, differs}
use Rattle.line_walks.specs.LinesSoFar.{ends_of, next_ends, LineEdges, no_line, with_edge, line_so_far, lines_in, StandsAt}
use Rattle.line_walks.proofs.Walks.{ends_more, has_walk}

-- ---- the rows of a line

-- a row of another line
pub rows_other : (before : List LineRow) (row : LineRow) (id : ℤ) → int_eq id row.line ≡ false
    → rows_of id (before ++ row ∷ []) ≡ rows_of id before
rows_other before row id e = filter-append (λ row. int_eq id row.line) before (row ∷ [])
    ∙ ap (λ b. rows_of id before ++ cond b (row ∷ []) []) e ∙ append-nil (rows_of id before)

-- a row of the line
pub rows_own : (before : List LineRow) (row : LineRow) (id : ℤ) → int_eq id row.line ≡ true
    → rows_of id (before ++ row ∷ []) ≡ rows_of id before ++ row ∷ []
rows_own before row id e = filter-append (λ row. int_eq id row.line) before (row ∷ [])
    ∙ ap (λ b. rows_of id before ++ cond b (row ∷ []) []) e

-- the edges of a line with a row more
edges_own : (edges : List Edge) (rows : List LineRow) (row : LineRow) (edge : Edge)
    → edge_with edges row.edge ≡ Some edge
    → filter_map (λ row. edge_with edges row.edge) (rows ++ row ∷ [])
    ≡ filter_map (λ row. edge_with edges row.edge) rows ++ edge ∷ []
edges_own edges rows row edge is = filter_map-append (λ row. edge_with edges row.edge) rows
    (row ∷ []) ∙ ap (λ o. filter_map (λ row. edge_with edges row.edge) rows ++ cons_option o []) is

-- a line, from its own rows
abbrev line_from : List Edge → ℤ → List LineRow → LineEdges
line_from edges id rows = record {
  id = id;
  indexes = map (λ row. index_of edges row.edge) rows;
  edges = filter_map (λ row. edge_with edges row.edge) rows;
  ends = ends_of (filter_map (λ row. edge_with edges row.edge) rows);
  frequency = first_frequency rows;
}

-- the first of rows stays the first where there is one more
frequency_more : (rows : List LineRow) (row : LineRow) → first_frequency (rows ++ row ∷ [])
    ≡ option_or (first_frequency rows) (Some row.frequency)
frequency_more [] row = refl
frequency_more (first ∷ rows) row = refl

line_more : (edges : List Edge) (id : ℤ) (rows : List LineRow) (row : LineRow) (index : ℕ)
    (edge : Edge) → StandsAt edges row.edge index → edge_with edges row.edge ≡ Some edge
    → line_from edges id (rows ++ row ∷ [])
    ≡ with_edge (line_from edges id rows) index edge row.frequency
line_more edges id rows row index edge stands is =
    grind (arith, edges_own, map_push, unwrap_or, frequency_more, ends_more)

module _ (edges : List Edge) (before : List LineRow) (row : LineRow) where
  -- a line without the row stays
  pub line_stays : (id : ℤ) → int_eq id row.line ≡ false → line_so_far edges (before ++ row ∷ []) id
      ≡ line_so_far edges before id
  line_stays id other = ap (line_from edges id) (rows_other before row id other)

  -- the line of the row has one edge more
  pub line_gets : (line : LineEdges) (index : ℕ) (edge : Edge) → line
      ≡ line_so_far edges before row.line → StandsAt edges row.edge index → edge_with edges row.edge
      ≡ Some edge → with_edge line index edge row.frequency
      ≡ line_so_far edges (before ++ row ∷ []) row.line
  line_gets line index edge told stands is =
      ap (λ some. with_edge some index edge row.frequency) told
      ∙ sym (ap (line_from edges row.line)
      (rows_own before row row.line (int_eq_equiv.refl row.line))
      ∙ line_more edges row.line (rows_of row.line before) row index edge stands is)

  -- its edges may be walked where one of its walks has an end
  pub walk_told : (line : LineEdges) (edge : Edge) (ends : Ends) → line
      ≡ line_so_far edges before row.line → edge_with edges row.edge ≡ Some edge → ends
      ≡ next_ends line.edges line.ends edge
      → is_some (walk_of (edges_of edges row.line (before ++ row ∷ [])))
      ≡ (is_some ends.left || is_some ends.right)
  walk_told line edge ends told is next =
      grind (arith, ends_more, is_some, rows_own, int_eq_equiv, edges_own, has_walk)

  -- its frequency differs from that of the line where it does from that of the line's first row
  pub frequency_told : (line : LineEdges) (frequency : ℤ) (test answer : Bool) → line
      ≡ line_so_far edges before row.line → frequency ≡ row.frequency → test
      ≡ differs frequency line.frequency → test ≡ answer
      → differs row.frequency (first_frequency (rows_of row.line before)) ≡ answer
  frequency_told line frequency test answer told own is e =
      ap (λ f. differs f (first_frequency (rows_of row.line before))) (sym own)
      ∙ ap (λ some. differs frequency some.frequency) (sym told) ∙ sym is ∙ e

  -- its place is told by how many edges the line has
  pub next_told : (line : LineEdges) (order : ℤ) (count : ℕ) (test answer : Bool) → line
      ≡ line_so_far edges before row.line → order ≡ row.order → count ≡ length line.indexes → test
      ≡ int_eq order (pos (count + 1)) → test ≡ answer
      → int_eq row.order (pos (length (rows_of row.line before) + 1)) ≡ answer
  next_told line order count test answer told own size is e = grind (arith, length-map)

-- ---- the rules of a row

abbrev pub whys : Bool → Bool → Bool → Bool → Bool → List RowWhy
whys known next repeated joined other =
    cond (not known) (why.UnknownEdge ∷ []) []
    ++ (cond (not next) (why.OrderGap ∷ []) []
    ++ (cond repeated (why.RepeatedEdge ∷ []) []
    ++ (cond (not joined) (why.BrokenLine ∷ []) []
    ++ (cond other (why.FrequencyDiffers ∷ []) [] ++ []))))

module _ (edges : List Edge) (before : List LineRow) (row : LineRow) where
  abbrev first_why : Option RowWhy
  first_why = slice_get (broken_whys (line_rules edges) before row) 0

  abbrev is_next : Bool
  is_next = int_eq row.order (pos (length (rows_of row.line before) + 1))

  abbrev repeats : Bool
  repeats = list_any (λ other. int_eq row.edge other.edge) (rows_of row.line before)

  abbrev joins : Bool
  joins = is_some (walk_of (edges_of edges row.line (before ++ row ∷ [])))

  abbrev other : Bool
  other = differs row.frequency (first_frequency (rows_of row.line before))

  pub unknown : edge_with edges row.edge ≡ None → first_why ≡ Some why.UnknownEdge
  unknown a = ap (λ o. slice_get (whys (is_some o) is_next repeats joins other) 0) a

  module _ (known : is_some (edge_with edges row.edge) ≡ true) where
    pub order_gap : is_next ≡ false → first_why ≡ Some why.OrderGap
    order_gap b = rw (known, b) refl

    module _ (next : is_next ≡ true) where
      pub repeated_edge : repeats ≡ true → first_why ≡ Some why.RepeatedEdge
      repeated_edge c = rw (known, next, c) refl

      pub broken_line : repeats ≡ false → joins ≡ false → first_why ≡ Some why.BrokenLine
      broken_line c d = rw (known, next, c, d) refl

      module _ (new : repeats ≡ false) (joined : joins ≡ true) where
        pub frequency_differs : other ≡ true → first_why ≡ Some why.FrequencyDiffers
        frequency_differs e = rw (known, next, new, joined, e) refl

        pub row_fits : other ≡ false → broken_whys (line_rules edges) before row ≡ []
        row_fits e = rw (known, next, new, joined, e) refl

-- ---- the pairs of a line and an edge

or_last : (x y : Bool) → cond y true x ≡ (x || (y || false))
or_last true true = refl
or_last true false = refl
or_last false true = refl
or_last false false = refl

chosen : (a b old : Bool) (rows : List LineRow) (row : LineRow) (edge : ℤ) → b
    ≡ int_eq edge row.edge → old ≡ list_any (λ other. int_eq edge other.edge) rows
    → cond (a && b) true old
    ≡ list_any (λ other. int_eq edge other.edge) (rows ++ cond a (row ∷ []) [])
chosen true b old rows row edge same told = ap (λ t. cond t true old) same
    ∙ or_last old (int_eq edge row.edge) ∙ ap (λ t. t || (int_eq edge row.edge || false)) told
    ∙ sym (list_any-append (λ other. int_eq edge other.edge) rows (row ∷ []))
chosen false b old rows row edge same told = told
    ∙ ap (list_any (λ other. int_eq edge other.edge)) (sym (append-nil rows))

-- one row more
pub pair_noted : (before : List LineRow) (row : LineRow) (id edge : ℤ) (old new : Bool) → new
    ≡ cond (int_eq row.line id && int_eq row.edge edge) true old → old
    ≡ list_any (λ other. int_eq edge other.edge) (rows_of id before) → new
    ≡ list_any (λ other. int_eq edge other.edge) (rows_of id (before ++ row ∷ []))
pair_noted before row id edge old new noted told =
    grind (arith, int_eq_equiv, chosen, filter-append)

-- whether the pair of a row is new
pub new_told : (before : List LineRow) (row : LineRow) (id edge : ℤ) (held : ℤ → ℤ → Bool)
    (is_new : Bool) → id ≡ row.line → edge ≡ row.edge
    → ((id edge : ℤ) → held id edge
    ≡ list_any (λ other. int_eq edge other.edge) (rows_of id before)) → is_new ≡ not (held id edge)
    → is_new ≡ not (list_any (λ other. int_eq row.edge other.edge) (rows_of row.line before))
new_told before row id edge held is_new same_line same_edge told is =
    is ∙ ap (λ q. not (held q edge)) same_line ∙ ap (λ q. not (held row.line q)) same_edge
    ∙ ap not (told row.line row.edge)

-- ---- lines by their ids

-- the line at the place of its id is changed, and the others stay
pub line_set : {X : Type 0} (ids : List ℤ) (line : ℤ) (place : ℕ) (old new : ℤ → X) (changed : X)
    → IsDistinct int_eq ids → position (int_eq line) ids ≡ Some place → changed ≡ new line
    → ((id : ℤ) → int_eq id line ≡ false → new id ≡ old id) → set (map old ids) place changed
    ≡ map new ids
line_set ids line place old new changed apart at is stays =
    let p = position-Some (int_eq line) ids place (pos 0) at in
    let same : line ≡ get_or ids place (pos 0) = (Decides-int_eq line (get_or ids place (pos 0))).0 p.1 in
    let size : length (set (map old ids) place changed)
    ≡ length ids = length-set (map old ids) place changed ∙ length-map ids old in
    same_lists (set (map old ids) place changed) (map new ids) (size ∙ sym (length-map ids new)) (λ k d h.
    let within : k < length ids = omega arith in
    let later : k ≢ place → int_eq (get_or ids k (pos 0)) line ≡ false
    → get_or (set (map old ids) place changed) k d ≡ get_or (map new ids) k d = λ ne other.
    get_or-set_other (map old ids) place k changed d ne ∙ get_or-map old ids k (pos 0) d within
    ∙ sym (stays (get_or ids k (pos 0)) other) ∙ sym (get_or-map new ids k (pos 0) d within) in
    elim (cases_order k place) [
      | inl e ↦
          let here : place < length (map old ids) = omega (arith, length-map ids old) in
          subst (λ n. get_or (set (map old ids) place changed) n d ≡ get_or (map new ids) n d) (sym e)
          (get_or-set_same (map old ids) place changed d here ∙ is ∙ ap new same
          ∙ sym (get_or-map new ids place (pos 0) d p.0))
      | inr (inl lt) ↦ later (λ e. absurd (omega arith)) (int_eq_equiv.symm (get_or ids k (pos 0)) line ∙ p.2 k lt)
      | inr (inr gt) ↦ later (λ e. absurd (omega arith))
          (int_eq_equiv.symm (get_or ids k (pos 0)) line
          ∙ ap (λ q. int_eq q (get_or ids k (pos 0))) same
          ∙ apart_from_distinct int_eq ids place k (pos 0) apart gt within)
    ])

-- the line at the place of its id
pub line_at : {X : Type 0} (ids : List ℤ) (lines : List X) (of_id : ℤ → X) (line : ℤ) (place : ℕ)
    (d : X) → lines ≡ map of_id ids → position (int_eq line) ids ≡ Some place → get_or lines place d
    ≡ of_id line
line_at ids lines of_id line place d are at =
    let p = position-Some (int_eq line) ids place (pos 0) at in grind (
      arith,
      get_or,
      get_or-map,
      Decides-int_eq,
    )

-- the lines after one row more
pub lines_more : (edges : List Edge) (before : List LineRow) (row : LineRow) (ids : List ℤ)
    (place : ℕ) (lines after : List LineEdges) (index : ℕ) (edge : Edge) → IsDistinct int_eq ids
    → position (int_eq row.line) ids ≡ Some place → lines ≡ map (line_so_far edges before) ids
    → StandsAt edges row.edge index → edge_with edges row.edge ≡ Some edge → after
    ≡ set lines place (with_edge (get_or lines place (no_line (pos 0))) index edge row.frequency)
    → after ≡ map (line_so_far edges (before ++ row ∷ [])) ids
lines_more edges before row ids place lines after index edge apart at are stands is put =
    grind (arith, get_or, line_set, line_gets, line_at, line_stays)

-- ---- the ids of lines

-- the line of a row is listed
pub line_listed : (rows : List TableRow) (i : ℕ) (row : LineRow) → i < length rows → row
    ≡ line_row (get_or rows i no_row).cells → list_any (int_eq row.line) (lines_in rows) ≡ true
line_listed rows i row h is =
    let read : List LineRow = map (λ row. line_row row.cells) rows in
    let size : length read ≡ length rows = length-map rows (λ row. line_row row.cells) in
    let here : get_or (lines_in rows) i (pos 0)
    ≡ row.line = get_or-map (λ row. row.line) read i row (pos 0) (omega arith)
    ∙ ap (λ row. row.line)
    (get_or-map (λ row. line_row row.cells) rows i no_row row h ∙ sym is) in
    list_any_at (int_eq row.line) (lines_in rows) i (pos 0)
    (omega (arith, length-map read (λ row. row.line)))
    (ap (int_eq row.line) here ∙ int_eq_equiv.refl row.line)

-- the ids of one row more
pub ids_more : (rows : List TableRow) (i : ℕ) (read : ℤ) (id : ℤ) (old new : Bool) → i < length rows
    → read ≡ cell_at rows i 0 → new ≡ cond (int_eq read id) true old → old
    ≡ list_any (int_eq id) (lines_in (take i rows)) → new
    ≡ list_any (int_eq id) (lines_in (take (i + 1) rows))
ids_more rows i read id old new h is noted told =
    let line : TableRow → ℤ = λ row. (line_row row.cells).line in
    let row = get_or rows i no_row in
    let next : lines_in (take (i + 1) rows) ≡ lines_in (take i rows)
    ++ line row ∷ [] = ap lines_in (take_more rows i no_row h)
    ∙ ap (map (λ row. row.line)) (map_push (λ row. line_row row.cells) (take i rows) row)
    ∙ map_push (λ row. row.line) (map (λ row. line_row row.cells) (take i rows))
    (line_row row.cells) in
    noted ∙ ap (λ b. cond b true old) (ap (λ q. int_eq q id) is ∙ int_eq_equiv.symm (line row) id)
    ∙ or_last old (int_eq id (line row)) ∙ ap (λ b. b || (int_eq id (line row) || false)) told
    ∙ sym (list_any-append (int_eq id) (lines_in (take i rows)) (line row ∷ [])) ∙ ap (list_any (int_eq id)) (sym next)
