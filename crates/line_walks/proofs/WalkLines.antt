-- A text whose rows are those of lines that are walks has no fault by the rules of its kind.
use Rattle.plan_num.proofs.Common.{◌≡◌, ℕ, ℤ, ◌+◌, ◌≤◌, ◌<◌, true, false, is_some, List, [], ◌∷◌}
use Rattle.plan_num.proofs.Common.{◌++◌, length, map, append-nil, All, nat_eq, refl, sym, subst}
use Rattle.plan_num.proofs.Common.{arith, AllByRecursion, flat_map, list_any, int_cmp, int_eq}
use Rattle.plan_num.proofs.Common.{is_member, le-ltb, Decides-int_eq, int_eq_equiv, length-map}
use Rattle.plan_num.proofs.Common.{map-append, All-append, All-contains, All-cons, All-nil}
use Rattle.plan_num.proofs.Common.{filter-append, is_member-Decides, length-le_from_is_member}
use Rattle.std.specs.List.{IsDistinct}
use Rattle.std.specs.List.Sorted.{IsStrictlySortedBy}
use Rattle.std.specs.declared.cmp.Ordering.TheVariants.{Less}
use Rattle.tables.specs.declared.counted.Counted.TheVariants as counted
use Rattle.tables.specs.declared.refusal.Refusal.TheVariants as refusal
use Rattle.tables.proofs.Common.{concept_columns, pool_columns, TableRow, ReadsBack, KeepRules}
use Rattle.tables.proofs.Common.{accepted, each_known}
use Rattle.walks.specs.declared.edge.Edge.{Edge}
use Rattle.walks.proofs.Common.{NetworkParts, edges_at, rising, all_rising, rising_rises}
use Rattle.line_walks.specs.declared.line_file.LineFile.{LineFile}
use Rattle.line_walks.specs.declared.line_file.LineFile.TheVariants as kinds
use Rattle.line_walks.specs.declared.line_row.LineRow.{LineRow}
use Rattle.line_walks.specs.Pools.{columns_of, concept_faults, line_faults, line_row}
use Rattle.line_walks.specs.Pools.{line_rules, pool_faults}
use Rattle.line_walks.specs.Pools.{rows_of, walk_of}
use Rattle.line_walks.proofs.WalkRows.{below_differs, line_kept, other_rows}
use Rattle.line_walks.proofs.WalkRows.{rows_from}
use Rattle.plan_num.proofs.Tests.{above_differs}

-- a line of rows: its id, its frequency, and the indexes of its edges
pub record RowsLine : Type 0 where
  pub id : ℤ
  pub frequency : ℕ
  pub edges : List ℕ

-- a line over edges, each once, that are a walk
pub record IsWalked (edges : List Edge) (line : RowsLine) : Type 0 where
  pub there : All (λ index. index < length edges) line.edges
  pub apart : IsDistinct nat_eq line.edges
  pub walk : is_some (walk_of (edges_at edges line.edges)) ≡ true

-- the rows of a line, and those of lines one after another
abbrev pub rows_at : List Edge → RowsLine → List LineRow
rows_at edges line = rows_from edges line.id line.frequency 1 line.edges

abbrev pub rows_for : List Edge → List RowsLine → List LineRow
rows_for edges lines = flat_map (rows_at edges) lines

-- what rows of a table stand for, each of them and all
abbrev pub told_row : TableRow → LineRow
told_row row = line_row row.cells

abbrev pub told_rows : List TableRow → List LineRow
told_rows rows = map told_row rows

abbrev pub ids_for : List RowsLine → List ℤ
ids_for lines = map (λ line. line.id) lines

-- ---- not more different ids than some ids

pub distinct : (ids : List ℤ) → IsStrictlySortedBy int_cmp ids → IsDistinct int_eq ids
unfolding IsStrictlySortedBy IsDistinct
distinct [] rise = tt
distinct (id ∷ ids) rise = (apart id ids rise.0, distinct ids rise.1)
  where
    apart : (id : ℤ) (ids : List ℤ) → AllByRecursion (λ other. int_cmp id other ≡ Less) ids
        → AllByRecursion (λ other. int_eq id other ≡ false) ids
    apart id [] above = tt
    apart id (other ∷ ids) above = (below_differs id other above.0, apart id ids above.1)

few_ids : (all ids : List ℤ) → All (λ id. is_member int_eq all id ≡ true) ids
    → length (rising ids) ≤ length all
few_ids all ids each =
    length-le_from_is_member int_eq_equiv (rising ids) all
    (distinct (rising ids) (rising_rises ids))
    (λ id is. All-contains (λ id. is_member int_eq all id ≡ true) (rising ids) id
    (all_rising (λ id. is_member int_eq all id ≡ true) ids each)
    ((is_member-Decides Decides-int_eq (rising ids) id).0 is))

-- ---- the rows of all lines

module _ (edges : List Edge) (rise : IsStrictlySortedBy int_cmp (map (λ edge. edge.id) edges)) where
  -- no row before is of one of some lines
  abbrev pub AreNew : List LineRow → List ℤ → Type 0
  AreNew before ids = AllByRecursion (λ id. rows_of id before ≡ []) ids

  pub new_more : (before : List LineRow) (line : RowsLine) (ids : List ℤ)
      → AllByRecursion (λ other. int_cmp line.id other ≡ Less) ids → AreNew before ids
      → AreNew (before ++ rows_at edges line) ids
  new_more before line [] above new = tt
  new_more before line (id ∷ ids) above new =
      grind (
        arith,
        filter-append,
        other_rows,
        above_differs,
        new_more before line ids above.1 new.1,
      )

  none_done : (indexes : List ℕ)
      → AllByRecursion (λ index. list_any (nat_eq index) [] ≡ false) indexes
  none_done [] = tt
  none_done (index ∷ indexes) = (refl, none_done indexes)

  lines_kept : (before : List LineRow) (lines : List RowsLine)
      → IsStrictlySortedBy int_cmp (ids_for lines) → AreNew before (ids_for lines)
      → AllByRecursion (IsWalked edges) lines
      → KeepRules (line_rules edges) before (rows_for edges lines)
  unfolding IsStrictlySortedBy
  lines_kept before [] up new good = tt
  lines_kept before (line ∷ lines) up new good =
      let own = rows_at edges line in
      let rest = lines_kept (before ++ own) lines up.1
      (new_more before line (ids_for lines) up.0 new.1) good.1 in
      let kept = line_kept edges rise line.id line.frequency before new.0 1 [] line.edges
      (rows_for edges lines) refl (All-nil (λ index. index < length edges)) good.0.there
      (none_done line.edges) good.0.apart good.0.walk rest in
      subst (λ all. KeepRules (line_rules edges) all (own ++ rows_for edges lines))
      (append-nil before) kept

  pub none_yet : (ids : List ℤ) → AreNew [] ids
  none_yet [] = tt
  none_yet (id ∷ ids) = (refl, none_yet ids)

  -- rows of lines that are walks break no rule
  pub rows_kept : (lines : List RowsLine) → IsStrictlySortedBy int_cmp (ids_for lines)
      → AllByRecursion (IsWalked edges) lines
      → KeepRules (line_rules edges) [] (rows_for edges lines)
  rows_kept lines up good = lines_kept [] lines up (none_yet (ids_for lines)) good

-- what holds of the ids of lines holds of the lines of their rows
module _ (edges : List Edge) (P : ℤ → Type 0) where
  line_ids : (id : ℤ) (frequency n : ℕ) (indexes : List ℕ) → P id
      → All P (map (λ row. row.line) (rows_from edges id frequency n indexes))
  line_ids id frequency n [] h = All-nil P
  line_ids id frequency n (index ∷ indexes) h =
      All-cons P id _ h (line_ids id frequency (n + 1) indexes h)

  all_ids : (lines : List RowsLine) → AllByRecursion P (ids_for lines)
      → All P (map (λ row. row.line) (rows_for edges lines))
  all_ids [] h = All-nil P
  all_ids (line ∷ lines) h =
      subst (All P) (sym (map-append (λ (row : LineRow). row.line) (rows_at edges line)
      (rows_for edges lines)))
      (All-append P _ _ (line_ids line.id line.frequency 1 line.edges h.0) (all_ids lines h.1))

-- rows have no more lines than those of which they are
pub few_lines : (edges : List Edge) (lines : List RowsLine)
    → length (rising (map (λ row. row.line) (rows_for edges lines))) ≤ length lines
few_lines edges lines =
    let ids = ids_for lines in
    omega (
      arith,
      few_ids ids (map (λ row. row.line) (rows_for edges lines))
          (all_ids edges (λ id. is_member int_eq ids id ≡ true) lines
          (each_known ids ids (λ p h. h))),
      length-map lines (λ line. line.id),
    )

module _ (network : NetworkParts) (lines : List RowsLine) (table : List TableRow) (text : List ℕ)
    (rise : IsStrictlySortedBy int_cmp (map (λ edge. edge.id) network.edges))
    (up : IsStrictlySortedBy int_cmp (ids_for lines))
    (good : AllByRecursion (IsWalked network.edges) lines) (few : length lines ≤ 200)
    (are : told_rows table ≡ rows_for network.edges lines) where
  lines_accepted : (kind : LineFile) → ReadsBack (columns_of kind) table text
      → line_faults kind network text ≡ []
  unfolding line_faults
  lines_accepted kind back = grind (arith, few_lines, accepted, le-ltb, KeepRules, rows_kept)

  -- a text that is read back as the rows of some lines that are walks has no fault as a pool
  pub pool_accepted : ReadsBack pool_columns table text → pool_faults network text ≡ []
  pool_accepted back = lines_accepted kinds.Pool back

  -- nor as a line concept
  pub concept_accepted : ReadsBack concept_columns table text → concept_faults network text ≡ []
  concept_accepted back = lines_accepted kinds.Concept back
