-- What holds of each network that texts give.
use Rattle.plan_num.proofs.Common.{◌≡◌, ◌≢◌, ℕ, ℤ, pos, ◌+◌, ◌<◌, ◌≤◌, ◌≤ℤ◌, int_lt, Bool, true}
use Rattle.plan_num.proofs.Common.{false, not, ◌||◌, cond, T, List, [], ◌∷◌, ◌++◌, length, map}
use Rattle.plan_num.proofs.Common.{get_or, refl, ap, subst, sym, ◌∙◌, arith, lit<, All, list_any}
use Rattle.plan_num.proofs.Common.{position_or_len, IsStrictlySortedBy, keys_of, values_of, int_eq}
use Rattle.plan_num.proofs.Common.{int_cmp, lt-ltb, or_parts, not-false, Decides-int_eq, ints}
use Rattle.plan_num.proofs.Common.{length-map, All-cons, All-head, All-tail, position-Some}
use Rattle.plan_num.proofs.Common.{length-keys_of}
use Rattle.std.specs.Int.Signed.{lt_z_no}
use Rattle.std.proofs.lemmas.Map.Entries.{length-values_of}
use Rattle.tables.specs.declared.column.ColumnKind.TheVariants as kind
use Rattle.tables.specs.declared.row_why.RowWhy.{RowWhy}
use Rattle.tables.proofs.Common.{TableRow, edge_columns, table_of, InColumns, records, records_of}
use Rattle.tables.proofs.Common.{row_limit, broken_whys, input_faults, few_rows, sound_rows}
use Rattle.tables.proofs.Common.{front_none, back_none, in_column}
use Rattle.tables.specs.declared.row_why.RowWhy.TheVariants as why
use Rattle.tables.specs.declared.counted.Counted.TheVariants as counted
use Rattle.walks.specs.declared.edge.Edge.{Edge}
use Rattle.walks.proofs.Common.{IsEdge, IsNetwork, by_id, index_in, by_id_sorted, by_id_keyed}
use Rattle.walks.proofs.Common.{all_by_id, length_by_id, rising_rises, sorted_rise}
use Rattle.ptn_network.specs.declared.edge_row.EdgeRow.{EdgeRow}
use Rattle.ptn_network.specs.Inputs.{stop_input, edge_input, edge_row, edge_rules}
use Rattle.ptn_network.specs.Networks.{edge_of, edge_entry, stops_of, network_of, network_faults}
use Rattle.ptn_network.proofs.Rows.{no_reason, entries_keyed}

-- ---- one edge

passes : (p : ℤ → Bool) (ids : List ℤ) → list_any p ids ≡ true → position_or_len p ids < length ids
passes p [] e = cc
passes p (id ∷ ids) e =
    elim (p id) as (λ b. (b || list_any p ids) ≡ true
    → cond (not b) (1 + position_or_len p ids) 0 < length (id ∷ ids)) [
      | true ↦ λ _. omega arith
      | false ↦ λ rest. let later = passes p ids rest in omega arith
    ] e

-- a stop that is there has an index, and is the stop at it
record IsAt (stops : List ℤ) (id : ℤ) : Type 0 where
  within : index_in stops id < length stops
  is : id ≡ get_or stops (index_in stops id) (pos 0)

is_at : (stops : List ℤ) (id : ℤ) → not (list_any (int_eq id) stops) ≡ false → IsAt stops id
is_at stops id known = grind (
  arith,
  not-false,
  lt-ltb,
  passes,
  position-Some,
  Decides-int_eq,
  get_or,
)

later_reasons : (b : Bool) (reason : RowWhy) (more : List RowWhy)
    → cond b (reason ∷ []) [] ++ more ≡ [] → more ≡ []
later_reasons b reason more e = back_none (cond b (reason ∷ []) []) more e

differ : (x y : ℤ) → int_eq x y ≡ false → x ≢ y
differ x y apart same = let test : int_eq x y ≡ true = (Decides-int_eq x y).1 same in cc

at_least_one : (x : ℤ) → pos 0 ≤ℤ x → x ≢ pos 0 → pos 1 ≤ℤ x
at_least_one x low apart = omega (arith, ints)

edge_sound : (stops : List ℤ) (before : List EdgeRow) (cells : List ℤ)
    → broken_whys (edge_rules stops) before (edge_row cells) ≡ [] → InColumns edge_columns cells
    → IsEdge (length stops) (edge_of stops (edge_row cells))
edge_sound stops before cells none within =
    let row = edge_row cells in
    let known = later_reasons _ why.RepeatedId _ none in
    let ends = or_parts _ _ (no_reason _ why.UnknownStop _ known) in
    let left = is_at stops row.left ends.0 in
    let right = is_at stops row.right ends.1 in
    let joins = later_reasons _ why.UnknownStop _ known in
    let some = later_reasons _ why.LoopEdge _ joins in
    let zero = or_parts _ _ (no_reason _ why.ZeroBound _ some) in
    let crossed = no_reason (int_lt row.upper row.lower) why.BoundsCrossed _
    (later_reasons _ why.ZeroBound _ some) in
    let length_in = in_column edge_columns cells 3 kind.Skip (pos 0) within (lit< tt) in
    let lower_in = in_column edge_columns cells 4 kind.Skip (pos 0) within (lit< tt) in
    let upper_in = in_column edge_columns cells 5 kind.Skip (pos 0) within (lit< tt) in
    record {
      left = left.within;
      right = right.within;
      apart = λ same. differ row.left row.right (no_reason _ why.LoopEdge _ joins)
          (left.is ∙ ap (λ i. get_or stops i (pos 0)) same ∙ sym right.is);
      some_length = at_least_one row.length length_in.0 (differ row.length (pos 0) zero.0);
      short = length_in.1;
      some_time = at_least_one row.lower lower_in.0 (differ row.lower (pos 0) zero.1);
      in_order = lt_z_no (subst (λ b. T (not b)) (sym crossed) tt);
      soon = upper_in.1;
    }

-- ---- the network

all_entries : (P : Edge → Type 0) (stops : List ℤ) (rows : List TableRow)
    → All (λ row. P (edge_of stops (edge_row row.cells))) rows
    → All P (values_of (map (edge_entry stops) (records (edge_input stops) rows)))
all_entries P stops [] all = λ k d h. absurd (omega arith)
all_entries P stops (row ∷ rows) all = All-cons P _ (values_of
    (map (edge_entry stops) (records (edge_input stops) rows)))
    (All-head (λ r. P (edge_of stops (edge_row r.cells))) row rows all)
    (all_entries P stops rows (All-tail (λ r. P (edge_of stops (edge_row r.cells))) row rows all))

stops_rise : (text : List ℕ) → IsStrictlySortedBy int_cmp (stops_of text)
unfolding stops_of
stops_rise text = rising_rises (records_of stop_input text)

few_stops : (text : List ℕ) → input_faults stop_input text ≡ [] → length (stops_of text) ≤ 1000
unfolding stops_of
few_stops text none =
    let alone : ℤ → ℤ × Unit {0} = λ id. (id, tt) in
    let units : List (ℤ × Unit {0}) = map alone (records_of stop_input text) in
    omega (
      arith,
      length-keys_of (by_id units),
      length_by_id units,
      length-map (records_of stop_input text) alone,
      few_rows stop_input text (row_limit counted.Stops 1000) [] refl none,
    )

-- texts without a fault give a network
pub network_sound : (stops_text edges_text : List ℕ) → network_faults stops_text edges_text ≡ []
    → IsNetwork (network_of stops_text edges_text)
unfolding network_faults network_of
network_sound stops_text edges_text none =
    let stops = stops_of stops_text in
    let input = edge_input stops in
    let rows = records_of input edges_text in
    let entries = map (edge_entry stops) rows in
    let own = back_none (input_faults stop_input stops_text) (input_faults input edges_text) none in
    let table = table_of input.columns edges_text in
    let keyed = by_id_keyed entries (entries_keyed stops rows) in
    let sound = sound_rows input edges_text own in
    record {
      stops_rise = stops_rise stops_text;
      edges_rise = subst (IsStrictlySortedBy int_cmp) keyed
          (sorted_rise (by_id entries) (by_id_sorted entries));
      few_stops = few_stops stops_text (front_none _ _ none);
      few_edges = omega (
        arith,
        length-values_of (by_id entries),
        length_by_id entries,
        length-map rows (edge_entry stops),
        few_rows input edges_text
            (row_limit counted.Edges 1000) [] refl own,
      );
      edges = all_by_id (IsEdge (length stops)) entries
          (all_entries (IsEdge (length stops)) stops table
          (λ k d h. edge_sound stops (sound k d h).0 _ (sound k d h).1 (sound k d h).2));
    }
