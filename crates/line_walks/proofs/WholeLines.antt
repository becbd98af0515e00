-- Each line of a text without a fault is a walk over different edges, and has a frequency.
use Rattle.plan_num.proofs.Common.{◌≡◌, ℕ, ℤ, pos, ◌+◌, ◌<◌, ◌≤◌, ◌≤ℤ◌, Bool, true, false, ◌||◌}
use Rattle.plan_num.proofs.Common.{inl, inr, cond, nat_eq, List, [], ◌∷◌, ◌++◌, length, map, filter}
use Rattle.plan_num.proofs.Common.{filter_map, get_or, slice_get, position, unsigned_abs, refl, ap}
use Rattle.plan_num.proofs.Common.{subst, sym, ◌∙◌, arith, append_assoc, Option, Some, None}
use Rattle.plan_num.proofs.Common.{option_map, option_and_then, is_some, unwrap_or, All, list_any}
use Rattle.plan_num.proofs.Common.{IsDistinct, IsStrictlySortedBy, int_eq, int_cmp, Decides-int_eq}
use Rattle.plan_num.proofs.Common.{cases_Bool, eqb-true, false≢true, int_eq_equiv, list_any_at}
use Rattle.plan_num.proofs.Common.{map-map, append-nil, length-map, get_or-map, map-id, All-head}
use Rattle.plan_num.proofs.Common.{All-tail, All-map, All-weaker, All-filter, All-get_or}
use Rattle.plan_num.proofs.Common.{position-Some, apart_from_distinct, IsDistinct-from_apart}
use Rattle.plan_num.proofs.Common.{same_Some}
use Rattle.tables.specs.declared.column.ColumnKind.TheVariants as column
use Rattle.tables.proofs.Common.{records, numbered, input_faults, table_of, TableRow, InColumns}
use Rattle.tables.proofs.Common.{parts_sound, table_sound, sound_rows, few_rows, front_none}
use Rattle.tables.proofs.Common.{back_none}
use Rattle.tables.specs.Inputs.{row_faults}
use Rattle.walks.specs.declared.edge.Edge.{Edge}
use Rattle.walks.proofs.Common.{NetworkParts, IsNetwork, rising, edges_at, across, rising_rises}
use Rattle.walks.proofs.Common.{all_rising}
use Rattle.line_walks.specs.declared.line_file.LineFile.{LineFile}
use Rattle.line_walks.specs.declared.line_file.LineFile.TheVariants as kinds
use Rattle.line_walks.specs.declared.line_row.LineRow.{LineRow}
use Rattle.line_walks.specs.Pools.{file_of, columns_of, line_row, line_rules, line_input, line_limit, edge_with, index_of, rows_of, walk_of, walk_from, or_walk, edges_of, first_frequency, line_of, lines_over, lines_of, line_faults, LineParts, IsLine, AreLines}
use Rattle.line_walks.proofs.RowsOfLines.{rows_other}
use Rattle.ptn_network.proofs.EdgeIds.{found_at, found_nowhere}
use Rattle.walks.proofs.PathSteps.{no_edge as some_edge}
use Rattle.line_walks.proofs.SoundLines.{row_sound, id_in, input_rows, own, known, there, apart}
use Rattle.plan_num.proofs.Lists.{unmapped}

-- ---- the edges of a line, by their indexes

some_row : LineRow
some_row = record { line = pos 0; order = pos 0; edge = pos 0; frequency = pos 0 }

module _ (edges : List Edge) where
  abbrev IsKnown : LineRow → Type 0
  IsKnown row = is_some (edge_with edges row.edge) ≡ true

  placed : (id : ℤ) → is_some (edge_with edges id) ≡ true → (place : ℕ)
      × (position (λ edge. int_eq id edge.id) edges ≡ Some place)
  placed id known = grind (arith, is_some, found_nowhere, false≢true, known)

  -- the edge of an id stands at the index of the id
  edge_there : (id : ℤ) → is_some (edge_with edges id) ≡ true → slice_get edges (index_of edges id) ≡ edge_with edges id
  edge_there id known = grind (arith, placed, known, slice_get, unwrap_or, found_at)

  -- different edges stand at different indexes
  same_id : (x y : ℤ) → is_some (edge_with edges x) ≡ true → is_some (edge_with edges y) ≡ true
      → index_of edges x ≡ index_of edges y → x ≡ y
  same_id x y kx ky same =
      let p = placed x kx in
      let q = placed y ky in
      let here : index_of edges x ≡ p.0 = ap (λ place. unwrap_or place 0) p.1 in
      let there : index_of edges y ≡ q.0 = ap (λ place. unwrap_or place 0) q.1 in
      let one : x ≡ (get_or edges p.0 some_edge).id = (Decides-int_eq x _).0
      (position-Some (λ edge. int_eq x edge.id) edges p.0 some_edge p.1).1 in
      let two : y ≡ (get_or edges q.0 some_edge).id = (Decides-int_eq y _).0
      (position-Some (λ edge. int_eq y edge.id) edges q.0 some_edge q.1).1 in
      one ∙ ap (λ place. (get_or edges place some_edge).id) (sym here ∙ same ∙ there) ∙ sym two

  edges_are : (rows : List LineRow) → All IsKnown rows
      → edges_at edges (map (λ row. index_of edges row.edge) rows)
      ≡ filter_map (λ row. edge_with edges row.edge) rows
  edges_are [] all = refl
  edges_are (row ∷ rows) all =
      grind (arith, edge_there, All-head, All-tail, edges_are rows (All-tail IsKnown row rows all))

  edges_count : (rows : List LineRow) → All IsKnown rows
      → length (filter_map (λ row. edge_with edges row.edge) rows) ≡ length rows
  edges_count [] all = refl
  edges_count (row ∷ rows) all =
      grind (
        arith,
        is_some,
        filter_map,
        All-tail,
        All-head,
        edges_count rows (All-tail IsKnown row rows all),
      )

  indexes_apart : (rows : List LineRow) → All IsKnown rows
      → IsDistinct int_eq (map (λ row. row.edge) rows)
      → IsDistinct nat_eq (map (λ row. index_of edges row.edge) rows)
  indexes_apart rows all different = IsDistinct-from_apart nat_eq
      (map (λ row. index_of edges row.edge) rows) (λ i j d lt h.
      let to : j < length rows = omega (arith, length-map rows (λ (row : LineRow). index_of edges row.edge)) in
      let from : i < length rows = omega arith in
      let a = get_or rows i some_row in
      let b = get_or rows j some_row in
      let ka = All-get_or IsKnown rows i some_row from all in
      let kb = All-get_or IsKnown rows j some_row to all in
      let first = get_or-map (λ (row : LineRow). index_of edges row.edge) rows i some_row d from in
      let second = get_or-map (λ (row : LineRow). index_of edges row.edge) rows j some_row d to in
      let no : int_eq a.edge b.edge ≡ false =
      ap (λ q. int_eq q b.edge) (sym (get_or-map (λ (row : LineRow). row.edge) rows i some_row (pos 0) from))
      ∙ ap (int_eq (get_or (map (λ (row : LineRow). row.edge) rows) i (pos 0)))
      (sym (get_or-map (λ (row : LineRow). row.edge) rows j some_row (pos 0) to))
      ∙ apart_from_distinct int_eq (map (λ row. row.edge) rows) i j (pos 0) different lt
      (omega (arith, length-map rows (λ (row : LineRow). row.edge))) in
      elim (cases_Bool (nat_eq (get_or (map (λ row. index_of edges row.edge) rows) i d)
      (get_or (map (λ row. index_of edges row.edge) rows) j d))) [
        | inl same ↦
            let index : index_of edges a.edge ≡ index_of edges b.edge = sym first ∙ eqb-true _ _ same ∙ second in
            let yes : int_eq a.edge b.edge
            ≡ true = (Decides-int_eq a.edge b.edge).1 (same_id a.edge b.edge ka kb index) in
            absurd (false≢true (sym no ∙ yes))
        | inr differs ↦ differs
      ])

-- ---- the walk of a line

walk_stays : (edges : List Edge) (before : List LineRow) (row : LineRow) (id : ℤ)
    → is_some (walk_of (edges_of edges id before)) ≡ true
    → is_some (walk_of (edges_of edges row.line (before ++ row ∷ []))) ≡ true
    → is_some (walk_of (edges_of edges id (before ++ row ∷ []))) ≡ true
walk_stays edges before row id so_far joined =
    grind (arith, cases_Bool, own, is_some, Decides-int_eq, filter_map, rows_other)

all_walk : (kind : LineFile) (edges : List Edge) (id : ℤ) (before : List LineRow)
    (rows : List TableRow)
    → row_faults (file_of kind) (line_rules edges) before (numbered (line_input kind edges) rows)
    ≡ [] → is_some (walk_of (edges_of edges id before)) ≡ true
    → is_some (walk_of (edges_of edges id (before ++ records (line_input kind edges) rows))) ≡ true
unfolding row_faults
all_walk kind edges id before [] none so_far = ap
    (λ some. is_some (walk_of (edges_of edges id some))) (append-nil before) ∙ so_far
all_walk kind edges id before (row ∷ rows) none so_far =
    let read = line_row row.cells in
    let sound = row_sound edges before read (unmapped _ _ (front_none _ _ none)) in
    ap (λ some. is_some (walk_of (edges_of edges id some)))
    (sym (append_assoc before (read ∷ []) (records (line_input kind edges) rows)))
    ∙ all_walk kind edges id (before ++ read ∷ []) rows (back_none _ _ none)
    (walk_stays edges before read id so_far sound.2)

stops_from : (edges : List Edge) (stop : ℕ) (stops : List ℕ) → walk_from stop edges ≡ Some stops
    → length stops ≡ length edges + 1
unfolding walk_from
stops_from [] stop stops e = let same : stop ∷ [] ≡ stops = same_Some _ _ e in ap length (sym same)
stops_from (edge ∷ edges) stop stops e =
    elim (across edge stop) as (λ to. option_and_then
    (λ next. option_map (λ more. stop ∷ more) (walk_from next edges)) to ≡ Some stops → length stops
    ≡ length (edge ∷ edges) + 1) [
      | None ↦ λ h. cc
      | Some next ↦ λ h. elim (walk_from next edges) as
          (λ walk. walk_from next edges ≡ walk → option_map (λ more. stop ∷ more) walk ≡ Some stops
          → length stops ≡ length (edge ∷ edges) + 1) [
            | None ↦ λ w k. cc
            | Some rest ↦ λ w k.
                let same : stop ∷ rest ≡ stops = same_Some _ _ k in
                let size : length (stop ∷ rest) ≡ length stops = ap length same in
                omega (arith, stops_from edges next rest w)
          ] refl h
    ] e

walk_stops : (edges : List Edge) (stops : List ℕ) → 1 ≤ length edges → walk_of edges ≡ Some stops
    → length stops ≡ length edges + 1
walk_stops [] stops some e = absurd (omega arith)
walk_stops (edge ∷ edges) stops some e =
    elim (walk_from edge.left (edge ∷ edges)) as
    (λ left. walk_from edge.left (edge ∷ edges) ≡ left
    → or_walk left (walk_from edge.right (edge ∷ edges)) ≡ Some stops → length stops
    ≡ length (edge ∷ edges) + 1) [
      | None ↦ λ l h. stops_from (edge ∷ edges) edge.right stops h
      | Some found ↦ λ l h. stops_from (edge ∷ edges) edge.left stops (l ∙ h)
    ] refl e

told : (walk : Option (List ℕ)) → is_some walk ≡ true → walk ≡ Some (unwrap_or walk [])
told None h = cc
told (Some stops) h = refl

-- ---- rows of a line

some_pass : {X : Type 0} (p : X → Bool) (xs : List X) → list_any p xs ≡ true → 1 ≤ length (filter p xs)
some_pass p [] h = cc
some_pass p (x ∷ xs) h =
    elim (p x) as (λ b. (b || list_any p xs) ≡ true → 1 ≤ length (cond b (x ∷ filter p xs) (filter p xs))) [
      | true ↦ λ e. omega arith
      | false ↦ λ e. some_pass p xs e
    ] h

has_rows : (rows : List LineRow) → All (λ id. 1 ≤ length (rows_of id rows)) (map (λ row. row.line) rows)
has_rows rows = All-map (λ id. 1 ≤ length (rows_of id rows)) (λ (row : LineRow). row.line) rows (λ k d h.
    some_pass (λ row. int_eq (get_or rows k d).line row.line) rows
    (list_any_at (λ row. int_eq (get_or rows k d).line row.line) rows k d h
    (int_eq_equiv.refl (get_or rows k d).line)))

-- ---- frequencies

abbrev IsServed : LineRow → Type 0
IsServed row = unsigned_abs row.frequency ≤ 1000

served : (kind : LineFile) (cells : List ℤ) → InColumns (columns_of kind) cells → IsServed (line_row cells)
served kinds.Pool [] within = absurd within
served kinds.Pool (a ∷ []) within = absurd within.1
served kinds.Pool (a ∷ b ∷ []) within = absurd within.1.1
served kinds.Pool (a ∷ b ∷ c ∷ []) within = omega arith
served kinds.Pool (a ∷ b ∷ c ∷ d ∷ more) within = absurd within.1.1.1
served kinds.Concept cells within = grind arith

first_served : (rows : List LineRow) → All IsServed rows
    → unsigned_abs (unwrap_or (first_frequency rows) (pos 0)) ≤ 1000
first_served [] all = omega arith
first_served (row ∷ rows) all = All-head IsServed row rows all

-- ---- all lines

module _ (kind : LineFile) (network : NetworkParts) (sound : IsNetwork network) (text : List ℕ)
    (none : input_faults (line_input kind network.edges) text ≡ []) where
  abbrev rows_in : List LineRow
  rows_in = input_rows kind network sound text none

  all_served : All IsServed rows_in
  all_served =
      let rows = sound_rows (line_input kind network.edges) text none in
      All-map IsServed (λ (row : TableRow). line_row row.cells) (table_of (columns_of kind) text)
      (λ k d h. served kind _ (rows k d h).2)

  line_is : (id : ℤ) → 1 ≤ length (rows_of id rows_in) → pos 1 ≤ℤ id → id ≤ℤ pos 1000000000
      → IsLine network.edges (line_of network.edges rows_in id)
  line_is id some least greatest =
      let edges = network.edges in
      let mine = rows_of id rows_in in
      let all = known kind network sound text none id in
      let size : length (map (λ (row : LineRow). index_of edges row.edge) mine)
      ≡ length mine = length-map mine (λ (row : LineRow). index_of edges row.edge) in
      let count = edges_count edges mine all in
      let walks = told (walk_of (edges_of edges id rows_in))
      (all_walk kind edges id [] (table_of (columns_of kind) text)
      (table_sound (line_input kind edges) _
      (parts_sound (line_input kind edges) text none).1).1 refl) in
      record {
        id_least = least;
        id_greatest = greatest;
        some = omega arith;
        apart = indexes_apart edges mine all (apart kind network sound text none id);
        there = there kind network sound text none id;
        walk = ap walk_of (edges_are edges mine all) ∙ walks;
        stops = walk_stops (edges_of edges id rows_in) _ (omega arith) walks ∙ omega arith;
        frequency = first_served mine (All-filter (λ row. int_eq id row.line) IsServed rows_in all_served);
      }

  lines_are : AreLines network.edges (lines_over network.edges rows_in)
  lines_are =
      let edges = network.edges in
      let rows = sound_rows (line_input kind edges) text none in
      let ids = map (λ (row : LineRow). row.line) rows_in in
      let IsId : ℤ → Type 0 = λ id. (1 ≤ length (rows_of id rows_in)) × (pos 1 ≤ℤ id) × (id ≤ℤ pos 1000000000) in
      let within : All (λ (row : LineRow). (pos 1 ≤ℤ row.line) × (row.line ≤ℤ pos 1000000000))
      rows_in = All-map (λ (row : LineRow). (pos 1 ≤ℤ row.line) × (row.line ≤ℤ pos 1000000000))
      (λ (row : TableRow). line_row row.cells) (table_of (columns_of kind) text)
      (λ k d h. id_in kind _ (rows k d h).2) in
      let named : All (λ (id : ℤ). (pos 1 ≤ℤ id) × (id ≤ℤ pos 1000000000)) ids = All-map
      (λ (id : ℤ). (pos 1 ≤ℤ id) × (id ≤ℤ pos 1000000000))
      (λ (row : LineRow). row.line) rows_in within in
      let each : All IsId ids = λ k d h. (has_rows rows_in k d h, (named k d h).0, (named k d h).1) in
      record {
        rise = subst (IsStrictlySortedBy int_cmp)
            (sym (map-map (λ (line : LineParts). line.id) (line_of edges rows_in) (rising ids)
            ∙ map-id (rising ids))) (rising_rises ids);
        few = omega (
          arith,
          length-map (rising ids) (line_of edges rows_in),
          few_rows
              (line_input kind edges) text line_limit [] refl none,
        );
        each = All-map (IsLine edges) (line_of edges rows_in) (rising ids)
            (All-weaker IsId (λ id. IsLine edges (line_of edges rows_in id))
            (λ id is. line_is id is.0 is.1 is.2) (rising ids) (all_rising IsId ids each));
      }

-- the lines of a text without a fault
pub whole_lines : (kind : LineFile) (network : NetworkParts) (text : List ℕ) → IsNetwork network
    → line_faults kind network text ≡ [] → AreLines network.edges (lines_of kind network text)
unfolding lines_of line_faults
whole_lines kind network text sound none = lines_are kind network sound text none
