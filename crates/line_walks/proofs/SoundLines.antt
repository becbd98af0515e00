-- What holds of the lines of each text without a fault.
use Rattle.plan_num.proofs.Common.{◌≡◌, ℕ, ℤ, pos, negsuc, ◌<◌, ◌≤◌, ◌≤ℤ◌, nat_lt, Bool, true}
use Rattle.plan_num.proofs.Common.{false, cond, List, [], ◌∷◌, ◌++◌, length, map, get_or, position}
use Rattle.plan_num.proofs.Common.{refl, ap, subst, sym, ◌∙◌, arith, append_assoc, Some, None}
use Rattle.plan_num.proofs.Common.{is_some, unwrap_or, option_map, unsigned_abs, lit<, All}
use Rattle.plan_num.proofs.Common.{list_any, find, position_or_len, int_eq, is_member, ltb-false}
use Rattle.plan_num.proofs.Common.{Decides-int_eq, int_eq_equiv, ints, append-nil, map_push}
use Rattle.plan_num.proofs.Common.{length-map, All-map, All-weaker, All-filter, All-contains}
use Rattle.plan_num.proofs.Common.{All-get_or, find_at, list_any_at, position-Some, sum_by-le}
use Rattle.plan_num.proofs.Common.{IsDistinct-push, is_member-Decides, length-le_from_is_member}
use Rattle.plan_num.proofs.Common.{slice_get_past, slice_get-get_or}
use Rattle.std.specs.List.{IsDistinct}
use Rattle.std.proofs.lemmas.List.Sums.{sum-map}
use Rattle.tables.specs.declared.column.ColumnKind.TheVariants as column
use Rattle.tables.proofs.Common.{pool_columns, concept_columns, records, records_of, numbered}
use Rattle.tables.proofs.Common.{broken_whys, input_faults, table_of, TableRow, parts_sound}
use Rattle.tables.proofs.Common.{table_sound, sound_rows, front_none, back_none, InColumns}
use Rattle.tables.proofs.Common.{in_column}
use Rattle.tables.specs.Inputs.{row_faults}
use Rattle.plan_num.proofs.Found.{any_mapped}
use Rattle.walks.specs.declared.edge.Edge.{Edge}
use Rattle.walks.proofs.Common.{NetworkParts, IsEdge, IsNetwork, all_rising, rising}
use Rattle.line_walks.specs.declared.line_file.LineFile.{LineFile}
use Rattle.line_walks.specs.declared.line_file.LineFile.TheVariants as kinds
use Rattle.line_walks.specs.declared.line_row.LineRow.{LineRow}
use Rattle.line_walks.specs.LineLengths.{line_length, IsModest}
use Rattle.line_walks.specs.LineLengths.{length_at}
use Rattle.line_walks.specs.Pools.{file_of, columns_of, line_row, line_rules, line_input, edge_with, index_of, rows_of, walk_of, edges_of, line_of, lines_over, lines_of, line_faults}
use Rattle.line_walks.proofs.RowsOfLines.{rows_own, rows_other}
use Rattle.walks.proofs.PathSteps.{no_edge as some_edge}
use Rattle.plan_num.proofs.Lists.{unmapped}

-- ---- rows that break no rule

-- the edge of such a row is there, and its line did not have it
pub row_sound : (edges : List Edge) (before : List LineRow) (row : LineRow)
    → broken_whys (line_rules edges) before row ≡ [] → (is_some (edge_with edges row.edge) ≡ true)
    × (list_any (λ other. int_eq row.edge other.edge) (rows_of row.line before) ≡ false)
    × (is_some (walk_of (edges_of edges row.line (before ++ row ∷ []))) ≡ true)
row_sound edges before row none = grind arith

-- ---- the edges of a line are different

-- the ids of the edges of a line
abbrev pub edge_ids : ℤ → List LineRow → List ℤ
edge_ids id rows = map (λ row. row.edge) (rows_of id rows)

none_apart : IsDistinct int_eq []
unfolding IsDistinct
none_apart = tt

apart_more : (before : List LineRow) (row : LineRow) (id : ℤ)
    → list_any (λ other. int_eq row.edge other.edge) (rows_of row.line before) ≡ false
    → IsDistinct int_eq (edge_ids id before) → IsDistinct int_eq (edge_ids id (before ++ row ∷ []))
apart_more before row id new apart =
    elim (int_eq id row.line) as (λ b. int_eq id row.line ≡ b → IsDistinct int_eq (edge_ids id (before ++ row ∷ []))) [
      | true ↦ λ own.
          let same : id ≡ row.line = (Decides-int_eq id row.line).0 own in
          let fresh : list_any (int_eq row.edge) (edge_ids id before) ≡ false =
          any_mapped (int_eq row.edge) (λ other. other.edge) (rows_of id before)
          ∙ subst (λ q. list_any (λ other. int_eq row.edge other.edge) (rows_of q before) ≡ false)
          (sym same) new in
          subst (IsDistinct int_eq) (sym (ap (map (λ row. row.edge)) (rows_own before row id own)
          ∙ map_push (λ row. row.edge) (rows_of id before) row))
          (IsDistinct-push int_eq_equiv (edge_ids id before) row.edge apart fresh)
      | false ↦ λ other. grind (arith, rows_other, apart)
    ] refl

pub all_apart : (kind : LineFile) (edges : List Edge) (id : ℤ) (before : List LineRow)
    (rows : List TableRow)
    → row_faults (file_of kind) (line_rules edges) before (numbered (line_input kind edges) rows)
    ≡ [] → IsDistinct int_eq (edge_ids id before)
    → IsDistinct int_eq (edge_ids id (before ++ records (line_input kind edges) rows))
unfolding row_faults
all_apart kind edges id before [] none apart = subst (λ rows. IsDistinct int_eq (edge_ids id rows))
    (sym (append-nil before)) apart
all_apart kind edges id before (row ∷ rows) none apart =
    let read = line_row row.cells in
    let met = row_sound edges before read (unmapped _ _ (front_none _ _ none)) in
    subst (λ all. IsDistinct int_eq (edge_ids id all))
    (append_assoc before (read ∷ []) (records (line_input kind edges) rows))
    (all_apart kind edges id (before ++ read ∷ []) rows (back_none _ _ none) (apart_more before read id met.1 apart))

-- ---- an edge that is there

-- what is found stands at a place, and is one of the items
pub known_at : {X : Type 0} (p : X → Bool) (xs : List X) (d : X) → is_some (find p xs) ≡ true
    → (unwrap_or (position p xs) 0 < length xs) × (list_any p xs ≡ true)
known_at p xs d known =
    let place = position_or_len p xs in
    elim (nat_lt place (length xs)) as
    (λ b. nat_lt place (length xs) ≡ b → (unwrap_or (cond b (Some place) None) 0 < length xs)
    × (list_any p xs ≡ true)) [
      | true ↦ λ within.
          let at : position p xs ≡ Some place = ap (λ b. cond b (Some place) None) within in
          let found = position-Some p xs place d at in
          (found.0, list_any_at p xs place d found.0 found.1)
      | false ↦ λ past.
          let nothing : is_some (find p xs)
          ≡ false = ap is_some (find_at p xs ∙ slice_get_past xs place (ltb-false _ _ past)) in
          cc
    ] refl

-- ---- the lengths of lines

-- a number from 1 on, without its sign
pub unsigned_within : (z : ℤ) (most : ℕ) → pos 0 ≤ℤ z → z ≤ℤ pos most → unsigned_abs z ≤ most
unsigned_within (pos n) most low high = omega (arith, ints)
unsigned_within (negsuc n) most low high = absurd (omega (arith, ints))

short_edge : (stops : ℕ) (edges : List Edge) → All (IsEdge stops) edges → (index : ℕ)
    → index < length edges → length_at edges index ≤ 10000000000
short_edge stops edges all index h =
    let edge = get_or edges index some_edge in
    let sound : IsEdge stops edge = All-get_or (IsEdge stops) edges index some_edge h all in
    let is : length_at edges index
    ≡ length_at (edge ∷ []) 0 = ap (λ o. unwrap_or
    (option_map (λ (edge : Edge). length_at (edge ∷ []) 0) o) 0)
    (slice_get-get_or edges index some_edge h) in
    let some : pos 1 ≤ℤ edge.length = sound.some_length in
    subst (λ n. n ≤ 10000000000) (sym is) (unsigned_within edge.length 10000000000 (omega (arith, ints)) sound.short)

-- the cell of a line's id is one
pub id_in : (kind : LineFile) (cells : List ℤ) → InColumns (columns_of kind) cells
    → (pos 1 ≤ℤ (line_row cells).line) × ((line_row cells).line ≤ℤ pos 1000000000)
id_in kinds.Pool cells within = in_column pool_columns cells 0 column.Skip (pos 0) within (lit< tt)
id_in kinds.Concept cells within = in_column concept_columns cells 0 column.Skip (pos 0) within (lit< tt)

-- ---- lines

module _ (kind : LineFile) (network : NetworkParts) (sound : IsNetwork network) (text : List ℕ)
    (none : input_faults (line_input kind network.edges) text ≡ []) where
  abbrev pub input_rows : List LineRow
  input_rows = records_of (line_input kind network.edges) text

  abbrev pub Known : LineRow → Type 0
  Known row = is_some (edge_with network.edges row.edge) ≡ true

  pub known_rows : All Known input_rows
  known_rows =
      let rows = sound_rows (line_input kind network.edges) text none in
      All-map Known (λ (row : TableRow). line_row row.cells) (table_of (columns_of kind) text)
      (λ k d h. (row_sound network.edges (rows k d h).0 _ (rows k d h).1).0)

  module _ (id : ℤ) where
    abbrev pub own : List LineRow
    own = rows_of id input_rows

    abbrev pub indexes : List ℕ
    indexes = map (λ row. index_of network.edges row.edge) own

    pub known : All Known own
    known = All-filter (λ row. int_eq id row.line) Known input_rows known_rows

    pub there : All (λ index. index < length network.edges) indexes
    there =
        All-map (λ index. index < length network.edges) (λ (row : LineRow). index_of network.edges row.edge) own
        (All-weaker Known (λ row. index_of network.edges row.edge < length network.edges)
        (λ row h. (known_at (λ edge. int_eq row.edge edge.id) network.edges some_edge h).0) own
        known)

    listed : All (λ edge. is_member int_eq (map (λ edge. edge.id) network.edges) edge ≡ true) (edge_ids id input_rows)
    listed =
        let Listed : ℤ → Type 0 = λ edge. is_member int_eq (map (λ edge. edge.id) network.edges) edge ≡ true in
        All-map Listed (λ (row : LineRow). row.edge) own
        (All-weaker Known (λ row. Listed row.edge)
        (λ row h. any_mapped (int_eq row.edge) (λ (edge : Edge). edge.id) network.edges
        ∙ (known_at (λ edge. int_eq row.edge edge.id) network.edges some_edge h).1) own known)

    pub apart : IsDistinct int_eq (edge_ids id input_rows)
    apart = all_apart kind network.edges id [] (table_of (columns_of kind) text)
        (table_sound (line_input kind network.edges) _
        (parts_sound (line_input kind network.edges) text none).1).1 none_apart

    few : length indexes ≤ 1000
    few =
        let ids = map (λ (edge : Edge). edge.id) network.edges in
        let mine = edge_ids id input_rows in
        let count = length-le_from_is_member int_eq_equiv mine ids apart
        (λ q h. All-contains (λ edge. is_member int_eq ids edge ≡ true) mine q listed
        ((is_member-Decides Decides-int_eq mine q).0 h)) in
        omega (
          arith,
          count,
          length-map own (λ row. index_of network.edges row.edge),
          length-map own
              (λ row. row.edge),
          length-map network.edges (λ edge. edge.id),
          sound.few_edges,
        )

    short : line_length network.edges (line_of network.edges input_rows id) ≤ 10000000000000
    short =
        let Short : ℕ → Type 0 = λ index. length_at network.edges index ≤ 10000000000 in
        let all = All-weaker (λ index. index < length network.edges) Short
        (short_edge _ network.edges sound.edges) indexes there in
        omega (
          arith,
          sum-map (length_at network.edges) indexes,
          sum_by-le
              (length_at network.edges) 10000000000 indexes all,
          few,
        )

    line_sound : pos 1 ≤ℤ id → id ≤ℤ pos 1000000000 → IsModest network.edges (line_of network.edges input_rows id)
    line_sound least greatest = grind (arith, there, few, short)

  -- each line has an id within its range, edges that are there and not too many, and is not too
  -- long
  lines_sound : All (IsModest network.edges) (lines_over network.edges input_rows)
  lines_sound =
      let rows = sound_rows (line_input kind network.edges) text none in
      let IsId : ℤ → Type 0 = λ id. (pos 1 ≤ℤ id) × (id ≤ℤ pos 1000000000) in
      let line : TableRow → ℤ = λ row. (line_row row.cells).line in
      let cells : All (λ row. IsId (line row))
      (table_of (columns_of kind) text) = λ k d h. id_in kind _ (rows k d h).2 in
      let ids : All IsId (map (λ row. row.line) input_rows) = All-map IsId
      (λ (row : LineRow). row.line) input_rows
      (All-map (λ (row : LineRow). IsId row.line) (λ (row : TableRow). line_row row.cells)
      (table_of (columns_of kind) text) cells) in
      All-map (IsModest network.edges) (line_of network.edges input_rows) (rising (map (λ row. row.line) input_rows))
      (All-weaker IsId (λ id. IsModest network.edges (line_of network.edges input_rows id))
      (λ id h. line_sound id h.0 h.1) (rising (map (λ row. row.line) input_rows))
      (all_rising IsId (map (λ row. row.line) input_rows) ids))

-- the lines of a text without a fault
pub pool_sound : (kind : LineFile) (network : NetworkParts) (text : List ℕ) → IsNetwork network
    → line_faults kind network text ≡ [] → All (IsModest network.edges) (lines_of kind network text)
unfolding lines_of line_faults
pool_sound kind network text sound none = lines_sound kind network sound text none
