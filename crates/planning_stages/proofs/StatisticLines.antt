-- The files of costs and of a line concept that were made have no fault as the statistic reads them.
use Rattle.plan_num.proofs.Common.{◌≡◌, ◌≢◌, ℕ, ℤ, suc, pos, ◌≤◌, Bool, true, false, not, ◌||◌}
use Rattle.plan_num.proofs.Common.{cond, is_some, List, [], ◌∷◌, ◌++◌, length, map, filter, zip}
use Rattle.plan_num.proofs.Common.{get_or, unsigned_abs, Some, refl, ap, subst, sym, ◌∙◌, arith}
use Rattle.plan_num.proofs.Common.{All, AllByRecursion, AllPairs, find, flat_map, list_any, int_eq}
use Rattle.plan_num.proofs.Common.{is_member, eq-eqb, true≢false, not-false, Decides-int_eq}
use Rattle.plan_num.proofs.Common.{int_eq_equiv, length-map, map_push, All-cons, All-contains}
use Rattle.plan_num.proofs.Common.{All-filter, All-map, All-nil, All-weaker, filter_passes}
use Rattle.plan_num.proofs.Common.{AllPairs-cons, AllPairs-filter, is_member-Decides}
use Rattle.plan_num.proofs.Common.{length-le_from_is_member}
use Rattle.std.proofs.lemmas.Map.Made.{IsDistinct-from_AllPairs}
use Rattle.tables.specs.declared.file_id.FileId.{FileId}
use Rattle.tables.specs.declared.file_id.FileId.TheVariants as file
use Rattle.tables.specs.declared.row_why.RowWhy.TheVariants as why
use Rattle.tables.proofs.Common.{concept_columns, pool_cost_columns, Input, Numbered, RowRule}
use Rattle.tables.proofs.Common.{broken_whys, input_faults, table_of, TableRow, ReadsBack}
use Rattle.tables.proofs.Common.{each_known, faults_of_table, limit_kept, no_faults, parts_sound}
use Rattle.tables.proofs.Common.{rule_kept, rules_sound, table_sound, whole_rule_sound, back_none}
use Rattle.tables.proofs.Common.{front_none}
use Rattle.tables.specs.Inputs.{row_faults}
use Rattle.plan_num.proofs.Found.{any_mapped}
use Rattle.walks.specs.declared.edge.Edge.{Edge}
use Rattle.line_walks.specs.PoolCosts.{cost_row_of, pool_cost_input}
use Rattle.line_walks.specs.Pools.{LineParts, differs as differs_first, first_frequency}
use Rattle.line_walks.specs.Pools.{line_limit as pool_limit, line_row as pool_row, line_rules}
use Rattle.line_walks.specs.Pools.{rows_of}
use Rattle.line_search.specs.ConceptTables.{concept_rows, line_rows, row_at}
use Rattle.line_search.specs.GivenProblems.{costed_by, problem_of}
use Rattle.evaluators.specs.declared.rows.LineRow.{LineRow}
use Rattle.evaluators.specs.FirstRows.{firsts}
use Rattle.evaluators.specs.StatisticInputs.{concept_input, cost_input, cost_row, cost_with}
use Rattle.evaluators.specs.StatisticInputs.{differs, first_row, line_limit, line_row}
use Rattle.evaluators.specs.StatisticStage.{costs_of}
use Rattle.plan_num.proofs.Lists.{unmapped}

-- what a function gives: a line with its cost, and a line problem
abbrev given_by : {X Y : Type 0} → (X → Y) → Type 0
given_by {Y = Y} f = Y

abbrev pub CostedLine : Type 0
CostedLine = given_by (λ (at : LineParts × ℤ). costed_by at.0 at.1)

abbrev pub ProblemParts : Type 0
ProblemParts = given_by problem_of

-- what rows are that rules speak of: those of a file of lines
abbrev ruled_by : {X : Type 0} → List (RowRule X) → Type 0
ruled_by {X} rules = X

abbrev pub PoolRow : Type 0
PoolRow = ruled_by (line_rules [])

-- a file of a line concept, as the stage of events reads it
abbrev pub concept_lines : List Edge → Input PoolRow
concept_lines edges = record {
  file = file.Concept;
  columns = concept_columns;
  read = pool_row;
  limits = pool_limit ∷ [];
  row_rules = line_rules edges;
  table_rules = [];
}

-- the cells of rows, and the first one of some cells
abbrev cells_of : List TableRow → List (List ℤ)
cells_of rows = map (λ row. row.cells) rows

abbrev line_in : List ℤ → ℤ
line_in cells = get_or cells 0 (pos 0)

-- ---- rows that two kinds of files read

module _ {X Y : Type 0} (file : FileId) (rules : List (RowRule X)) (others : List (RowRule Y))
    (read : List ℤ → X) (other : List ℤ → Y) (Good : List ℤ → Type 0)
    (keeps : (before : List TableRow) (row : TableRow) → Good row.cells
    → broken_whys rules (map (λ row. read row.cells) before) (read row.cells) ≡ []
    → broken_whys others (map (λ row. other row.cells) before) (other row.cells) ≡ []) where
  abbrev with_numbers : {Z : Type 0} → (List ℤ → Z) → List TableRow → List (Numbered Z)
  with_numbers read rows = map (λ row. record { number = row.number; row = read row.cells }) rows

  -- where they keep the rules of the one kind, they keep those of the other one
  rows_kept : (before rows : List TableRow) → AllByRecursion Good (cells_of rows)
      → row_faults file rules (map (λ row. read row.cells) before) (with_numbers read rows) ≡ []
      → row_faults file others (map (λ row. other row.cells) before) (with_numbers other rows) ≡ []
  unfolding row_faults
  rows_kept before [] good none = refl
  rows_kept before (row ∷ rows) good none =
      let first =
      unmapped _ (broken_whys rules (map (λ row. read row.cells) before) (read row.cells)) (front_none _ _ none) in
      let later = subst (λ some. row_faults file rules some (with_numbers read rows) ≡ [])
      (sym (map_push (λ (row : TableRow). read row.cells) before row)) (back_none _ _ none) in
      let rest = subst (λ some. row_faults file others some (with_numbers other rows) ≡ [])
      (map_push (λ (row : TableRow). other row.cells) before row) (rows_kept (before ++ row ∷ []) rows good.1 later) in
      rw (keeps before row good.0 first) rest

-- ---- the first row of each line

module _ {X : Type 0} (key : X → ℤ) where
  -- the first rows have different keys, and each is one of all rows
  abbrev Differ : X → X → Type 0
  Differ x y = key x ≢ key y

  abbrev others : X → X → Bool
  others row other = not (int_eq (key row) (key other))

  firsts_apart : (rows : List X) → AllPairs Differ (firsts key rows)
  unfolding firsts
  firsts_apart [] = λ i j d lt within. absurd (omega (arith, within))
  firsts_apart (row ∷ rows) =
      let more = firsts key rows in
      AllPairs-cons Differ row (filter (others row) more)
      (All-weaker (λ x. others row x ≡ true) (Differ row)
      (λ x passes same. true≢false (sym passes ∙ ap not ((Decides-int_eq (key row) (key x)).1 same)))
      (filter (others row) more) (filter_passes (others row) more))
      (AllPairs-filter Differ (others row) more (firsts_apart rows))

  firsts_kept : (P : X → Type 0) (rows : List X) → All P rows → All P (firsts key rows)
  unfolding firsts
  firsts_kept P [] each = each
  firsts_kept P (row ∷ rows) each =
      All-cons P row (filter (others row) (firsts key rows)) (each 0 row (omega arith))
      (All-filter (others row) P (firsts key rows) (firsts_kept P rows (λ k d h. each (suc k) d (omega (arith, h)))))

  keys_apart : (xs : List X) → AllPairs Differ xs → AllPairs (λ (x y : ℤ). x ≢ y) (map key xs)
  keys_apart [] apart = λ i j d lt within. absurd (omega (arith, within))
  keys_apart (x ∷ xs) apart =
      AllPairs-cons (λ (x y : ℤ). x ≢ y) (key x) (map key xs)
      (All-map (λ y. key x ≢ y) key xs (λ k d h. apart 0 (suc k) d (omega arith) (omega (arith, h))))
      (keys_apart xs (λ i j d lt within. apart (suc i) (suc j) d (omega (arith, lt)) (omega (arith, within))))

  -- there are not more of them than ids that they have
  few_firsts : (ids : List ℤ) (rows : List X)
      → All (λ row. is_member int_eq ids (key row) ≡ true) rows
      → length (firsts key rows) ≤ length ids
  few_firsts ids rows each =
      let some = map key (firsts key rows) in
      let known = All-map (λ id. is_member int_eq ids id ≡ true) key (firsts key rows)
      (firsts_kept (λ row. is_member int_eq ids (key row) ≡ true) rows each) in
      let few = length-le_from_is_member int_eq_equiv some ids
      (IsDistinct-from_AllPairs Decides-int_eq some (keys_apart (firsts key rows) (firsts_apart rows)))
      (λ id is. All-contains (λ id. is_member int_eq ids id ≡ true) some id known
      ((is_member-Decides Decides-int_eq some id).0 is)) in
      omega (arith, few, length-map (firsts key rows) key)

-- ---- what holds of the ids of lines holds of the rows of a concept

module _ (P : ℤ → Type 0) where
  abbrev Good : List ℤ → Type 0
  Good cells = P (line_in cells)

  good_both : (rows more : List TableRow) → AllByRecursion Good (cells_of rows)
      → AllByRecursion Good (cells_of more) → AllByRecursion Good (cells_of (rows ++ more))
  good_both [] more first last = last
  good_both (row ∷ rows) more first last = (first.0, good_both rows more first.1 last)

  line_good : (problem : ProblemParts) (id : ℤ) (frequency : ℕ) (at : List (ℕ × ℕ)) → P id
      → AllByRecursion Good (cells_of (map (row_at problem id frequency) at))
  line_good problem id frequency [] good = tt
  line_good problem id frequency (one ∷ at) good = (good, line_good problem id frequency at good)

  lines_good : (problem : ProblemParts) (lines : List CostedLine) (frequencies : List ℕ)
      → AllByRecursion P (map (λ line. line.id) lines)
      → AllByRecursion Good (cells_of (flat_map (λ at. line_rows problem at.0 at.1) (zip lines frequencies)))
  lines_good problem [] frequencies good = tt
  lines_good problem (line ∷ lines) [] good = tt
  lines_good problem (line ∷ lines) (frequency ∷ frequencies) good =
      grind (arith, good_both, line_good, lines_good problem lines frequencies good.1)

  costed_good : (lines : List LineParts) (costs : List ℤ) → AllByRecursion P (map (λ line. line.id) lines)
      → AllByRecursion P (map (λ (line : CostedLine). line.id) (map (λ at. costed_by at.0 at.1) (zip lines costs)))
  costed_good [] costs good = tt
  costed_good (line ∷ lines) [] good = tt
  costed_good (line ∷ lines) (cost ∷ costs) good = (good.0, costed_good lines costs good.1)

  -- the same of rows that were read
  each_row : (rows : List TableRow) → AllByRecursion Good (cells_of rows)
      → All (λ (row : LineRow). P row.line) (map (λ row. line_row row.cells) rows)
  each_row [] good = All-nil (λ (row : LineRow). P row.line)
  each_row (row ∷ rows) good =
      All-cons (λ (row : LineRow). P row.line) (line_row row.cells) (map (λ row. line_row row.cells) rows) good.0
      (each_row rows good.1)

  read_good : (problem : ProblemParts) (lines : List LineParts) (costs : List ℤ) (frequencies text : List ℕ)
      → problem.lines ≡ map (λ at. costed_by at.0 at.1) (zip lines costs)
      → ReadsBack concept_columns (concept_rows problem frequencies) text
      → AllByRecursion P (map (λ line. line.id) lines)
      → AllByRecursion Good (cells_of (table_of concept_columns text))
  read_good problem lines costs frequencies text same reads good =
      subst (AllByRecursion Good) (sym reads.1)
      (lines_good problem problem.lines frequencies
      (subst (λ (some : List CostedLine). AllByRecursion P (map (λ line. line.id) some)) (sym same)
      (costed_good lines costs good)))

-- ---- rules of rows

-- a row has the frequency of the first row of its line, if its cells have
same_first : (before : List TableRow) (line : ℤ) (cells : List ℤ)
    → differs_first (get_or cells 3 (pos 0)) (first_frequency (rows_of line (map (λ row. pool_row row.cells) before)))
    ≡ false
    → differs (line_row cells) (first_row (map (λ row. line_row row.cells) before) line) ≡ false
same_first [] line cells is = refl
same_first (row ∷ before) line cells is = by (int_eq line (line_in row.cells)) is (same_first before line cells)
  where
    by : (b : Bool)
        → differs_first (get_or cells 3 (pos 0))
        (first_frequency
        (cond b (pool_row row.cells ∷ rows_of line (map (λ row. pool_row row.cells) before))
        (rows_of line (map (λ row. pool_row row.cells) before)))) ≡ false
        → (differs_first (get_or cells 3 (pos 0))
        (first_frequency (rows_of line (map (λ row. pool_row row.cells) before))) ≡ false
        → differs (line_row cells) (first_row (map (λ row. line_row row.cells) before) line) ≡ false)
        → differs (line_row cells)
        (cond b (Some (line_row row.cells)) (first_row (map (λ row. line_row row.cells) before) line)) ≡ false
    by true is rest =
        let same = (Decides-int_eq (get_or cells 3 (pos 0)) (get_or row.cells 3 (pos 0))).0 (not-false _ is) in
        ap not (eq-eqb (unsigned_abs (get_or cells 3 (pos 0))) (unsigned_abs (get_or row.cells 3 (pos 0)))
        (ap unsigned_abs same))
    by false is rest = rest is

found_is : {X : Type 0} (p : X → Bool) (xs : List X) → is_some (find p xs) ≡ list_any p xs
found_is p [] = refl
found_is p (x ∷ xs) = grind (arith, is_some, found_is p xs)

none_lacks : (has : ℤ → Bool) (lines : List LineParts) → list_any (λ line. not (has line.id)) lines ≡ false
    → AllByRecursion (λ id. has id ≡ true) (map (λ line. line.id) lines)
none_lacks has [] none = tt
none_lacks has (line ∷ lines) none = by (has line.id) refl none (none_lacks has lines)
  where
    by : (b : Bool) → has line.id ≡ b → (not b || list_any (λ line. not (has line.id)) lines) ≡ false
        → (list_any (λ line. not (has line.id)) lines ≡ false
        → AllByRecursion (λ id. has id ≡ true) (map (λ line. line.id) lines))
        → (has line.id ≡ true) × AllByRecursion (λ id. has id ≡ true) (map (λ line. line.id) lines)
    by true is none rest = (is, rest none)
    by false is none rest = absurd (cc)

-- ---- the two files

-- what cells are read as
abbrev Told : {X : Type 0} → (List ℤ → X) → Type 0
Told {X} read = X

-- a row of the costs of a pool
abbrev PoolCost : Type 0
PoolCost = Told cost_row_of

module _ (lines : List LineParts) (costs : List ℕ)
    (accepted : input_faults (pool_cost_input lines) costs ≡ []) where
  abbrev table : List TableRow
  table = table_of pool_cost_columns costs

  costs_keep : (before : List TableRow) (row : TableRow) → Unit {0}
      → broken_whys (pool_cost_input lines).row_rules (map (λ row. cost_row_of row.cells) before)
      (cost_row_of row.cells) ≡ []
      → broken_whys cost_input.row_rules (map (λ row. cost_row row.cells) before) (cost_row row.cells) ≡ []
  costs_keep before row good none = grind (arith, rules_sound, rule_kept, any_mapped)

  each_unit : (rows : List (List ℤ)) → AllByRecursion (λ cells. Unit {0}) rows
  each_unit [] = tt
  each_unit (row ∷ rows) = (tt, each_unit rows)

  pub costs_read : input_faults cost_input costs ≡ []
  costs_read =
      let parts = parts_sound (pool_cost_input lines) costs accepted in
      let rows = (table_sound (pool_cost_input lines) table parts.1).1 in
      sym (faults_of_table cost_input costs table parts.0 refl)
      ∙ no_faults cost_input table refl
      (rows_kept file.PoolCost (pool_cost_input lines).row_rules cost_input.row_rules cost_row_of cost_row
      (λ cells. Unit {0}) costs_keep [] table (each_unit (cells_of table)) rows)
      refl

  -- each line has a cost
  abbrev HasCost : ℤ → Type 0
  HasCost id = is_some (cost_with (costs_of costs) id) ≡ true

  abbrev has_row : ℤ → Bool
  has_row id = list_any (λ row. int_eq id row.line) (map (λ row. cost_row_of row.cells) table)

  costs_there : (ids : List ℤ) → AllByRecursion (λ id. has_row id ≡ true) ids → AllByRecursion HasCost ids
  costs_there [] each = tt
  costs_there (id ∷ ids) each = grind (arith, found_is, any_mapped, costs_there ids each.1)

  all_cost : AllByRecursion HasCost (map (λ line. line.id) lines)
  all_cost =
      let parts = parts_sound (pool_cost_input lines) costs accepted in
      let whole = (table_sound (pool_cost_input lines) table parts.1).2 in
      let none = (whole_rule_sound (pool_cost_input lines) table
      (λ (rows : List PoolCost). list_any (λ line. not (list_any (λ row. int_eq line.id row.line) rows)) lines)
      why.MissingLine [] whole).0 in
      costs_there (map (λ line. line.id) lines) (none_lacks has_row lines none)

  module _ (edges : List Edge) (few : length lines ≤ 200) where
    concept_keep : (before : List TableRow) (row : TableRow) → HasCost (line_in row.cells)
        → broken_whys (line_rules edges) (map (λ row. pool_row row.cells) before) (pool_row row.cells) ≡ []
        → broken_whys (concept_input (costs_of costs)).row_rules (map (λ row. line_row row.cells) before)
        (line_row row.cells) ≡ []
    concept_keep before row good none = grind (arith, rules_sound, rule_kept, same_first)

    pub concept_read : (problem : ProblemParts) (given : List ℤ) (frequencies text : List ℕ)
        → problem.lines ≡ map (λ at. costed_by at.0 at.1) (zip lines given)
        → ReadsBack concept_columns (concept_rows problem frequencies) text
        → input_faults (concept_lines edges) text ≡ []
        → input_faults (concept_input (costs_of costs)) text ≡ []
    concept_read problem given frequencies text is reads fine =
        let rows = table_of concept_columns text in
        let parts = parts_sound (concept_lines edges) text fine in
        let kept = (table_sound (concept_lines edges) rows parts.1).1 in
        let ids = map (λ (line : LineParts). line.id) lines in
        let known = read_good (λ id. is_member int_eq ids id ≡ true) problem lines given frequencies text is reads
        (each_known ids ids (λ p h. h)) in
        let some = few_firsts (λ (row : LineRow). row.line) ids (map (λ row. line_row row.cells) rows)
        (each_row (λ id. is_member int_eq ids id ≡ true) rows known) in
        sym (faults_of_table (concept_input (costs_of costs)) text rows parts.0 refl)
        ∙ no_faults (concept_input (costs_of costs)) rows
        (limit_kept line_limit [] (map (λ row. line_row row.cells) rows)
        (omega (arith, some, few, length-map lines (λ (line : LineParts). line.id))) refl)
        (rows_kept file.Concept (line_rules edges) (concept_input (costs_of costs)).row_rules pool_row line_row
        (λ cells. HasCost (line_in cells)) concept_keep [] rows
        (read_good HasCost problem lines given frequencies text is reads all_cost) kept)
        refl
