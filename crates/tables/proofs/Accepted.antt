-- A text that reads back is accepted by the rules of its kind, where its rows keep them.
use Rattle.plan_num.proofs.Common.{arith, ◌≡◌, ℕ, ℤ, ◌||◌, not, Bool, true, false, cond, List, []}
use Rattle.plan_num.proofs.Common.{◌∷◌, ◌++◌, map, refl, ap, sym, ◌∙◌, subst, Some, None}
use Rattle.plan_num.proofs.Common.{AllByRecursion, list_any, int_eq, int_cmp, Decides-int_eq}
use Rattle.plan_num.proofs.Common.{int_eq_equiv, list_any-append, map-map, or_right}
use Rattle.std.specs.List.Sorted.{IsStrictlySortedBy}
use Rattle.std.specs.declared.cmp.Ordering.TheVariants.{Less}
use Rattle.tables.specs.declared.file_id.FileId.{FileId}
use Rattle.tables.specs.declared.row_why.RowWhy.{RowWhy}
use Rattle.tables.specs.declared.refusal.Refusal.TheVariants as refusal
use Rattle.tables.specs.Inputs.{Numbered, Input, RowRule, whole_rule, unnumbered, records, numbered, limit_faults, broken_whys, row_faults, whole_faults, input_faults}
use Rattle.tables.specs.Reading.{table_of}
use Rattle.tables.specs.Tables.{TableRow}
use Rattle.tables.specs.Writing.{ReadsBack}
use Rattle.tables.proofs.Inputs.{faults_of_table, no_faults, unnumbered_records, whole_kept}
use Rattle.plan_num.proofs.Tests.{above_differs}

-- each row keeps the rules after the rows before it
abbrev pub KeepRules : {X : Type 0} → List (RowRule X) → List X → List X → Type 0
KeepRules rules before [] = Unit {0}
KeepRules rules before (row ∷ rows) = (broken_whys rules before row ≡ []) × KeepRules rules (before ++ row ∷ []) rows

rows_faultless : {X : Type 0} (file : FileId) (rules : List (RowRule X)) (before : List X) (rows : List (Numbered X))
    → KeepRules rules before (unnumbered rows) → row_faults file rules before rows ≡ []
unfolding row_faults
rows_faultless file rules before [] h = refl
rows_faultless file rules before (at ∷ rows) h =
    grind (arith, rows_faultless file rules (before ++ at.row ∷ []) rows h.1)

module _ {X : Type 0} (input : Input X) (rows : List TableRow) (text : List ℕ)
    (back : ReadsBack input.columns rows text) where
  same_records : records input (table_of input.columns text) ≡ records input rows
  same_records =
      sym (map-map input.read (λ (row : TableRow). row.cells) (table_of input.columns text))
      ∙ ap (map input.read) back.1 ∙ map-map input.read (λ (row : TableRow). row.cells) rows

  same_unnumbered : unnumbered (numbered input (table_of input.columns text)) ≡ records input rows
  same_unnumbered = unnumbered_records input (table_of input.columns text) ∙ same_records

  -- a text that reads back as rows which keep the limits and the rules has no fault
  pub accepted : limit_faults input.limits (records input rows) ≡ [] → KeepRules input.row_rules [] (records input rows)
      → ((at : List (Numbered X)) → unnumbered at ≡ records input rows
      → whole_faults input.file input.table_rules at ≡ []) → input_faults input text ≡ []
  accepted few kept whole =
      let table = table_of input.columns text in
      sym (faults_of_table input text table
      (ap (map (λ fault. refusal.BadRow input.file fault.row fault.why)) back.0) refl)
      ∙ no_faults input table (ap (limit_faults input.limits) same_records ∙ few)
      (rows_faultless input.file input.row_rules [] (numbered input table)
      (subst (KeepRules input.row_rules []) (sym same_unnumbered) kept))
      (whole (numbered input table) same_unnumbered)

-- a rule of a whole file that names no row
pub whole_accepted : {X : Type 0} (file : FileId) (is_broken : List X → Bool) (why : RowWhy)
    (rows : List X) → is_broken rows ≡ false
    → (at : List (Numbered X)) → unnumbered at ≡ rows → whole_faults file (whole_rule is_broken why ∷ []) at ≡ []
whole_accepted file is_broken why rows kept at same =
    whole_kept file (whole_rule is_broken why) [] at
    (ap (λ some. cond (is_broken some) (Some 0) None) same ∙ ap (λ b. cond b (Some 0) None) kept)

-- ---- rows by ids that rise

module _ {X : Type 0} (rules : List (RowRule X)) (id : X → ℤ) where
  -- no row before has one of some ids
  abbrev Fresh : List X → List ℤ → Type 0
  Fresh before [] = Unit {0}
  Fresh before (one ∷ ids) = (list_any (λ other. int_eq one (id other)) before ≡ false) × Fresh before ids

  fresh_first : (ids : List ℤ) → Fresh [] ids
  fresh_first [] = tt
  fresh_first (one ∷ ids) = (refl, fresh_first ids)

  fresh_more : (before : List X) (row : X) (ids : List ℤ)
      → AllByRecursion (λ other. int_cmp (id row) other ≡ Less) ids → Fresh before ids
      → Fresh (before ++ row ∷ []) ids
  fresh_more before row [] above fresh = tt
  fresh_more before row (one ∷ ids) above fresh =
      grind (arith, list_any-append, above_differs, fresh_more before row ids above.1 fresh.1)

  module _ (Good : X → Type 0)
      (keeps : (before : List X) (row : X) → list_any (λ other. int_eq (id row) (id other)) before
      ≡ false → Good row → broken_whys rules before row ≡ []) where
    rising_keep : (before rows : List X) → IsStrictlySortedBy int_cmp (map id rows)
        → Fresh before (map id rows) → AllByRecursion Good rows → KeepRules rules before rows
    unfolding IsStrictlySortedBy
    rising_keep before [] rise fresh good = tt
    rising_keep before (row ∷ rows) rise fresh good = grind (
      arith,
      fresh_more,
      rising_keep (before
          ++ row ∷ []) rows rise.1 (fresh_more before row (map id rows) rise.0 fresh.1) good.1,
    )

    -- rows whose ids rise keep rules that a good row keeps which has an id of its own
    pub all_keep : (rows : List X) → IsStrictlySortedBy int_cmp (map id rows)
        → AllByRecursion Good rows → KeepRules rules [] rows
    all_keep rows rise good = rising_keep [] rows rise (fresh_first (map id rows)) good

-- every id of some is among all
abbrev AreAmong : List ℤ → List ℤ → Type 0
AreAmong all ids = (p : ℤ → Bool) → list_any p ids ≡ true → list_any p all ≡ true

own_first : (all : List ℤ) (id : ℤ) (ids : List ℤ) → AreAmong all (id ∷ ids) → list_any (int_eq id) all ≡ true
own_first all id ids among = among (int_eq id) (ap (λ b. b || list_any (int_eq id) ids) (int_eq_equiv.refl id))

among_rest : (all : List ℤ) (id : ℤ) (ids : List ℤ) → AreAmong all (id ∷ ids) → AreAmong all ids
among_rest all id ids among p h = among p (or_right (p id) (list_any p ids) h)

-- each of some ids is known among all
pub each_known : (all ids : List ℤ) → AreAmong all ids → AllByRecursion (λ id. list_any (int_eq id) all ≡ true) ids
each_known all [] among = tt
each_known all (id ∷ ids) among = (own_first all id ids among, each_known all ids (among_rest all id ids among))

-- and none of them is missing there
pub none_missing : {X : Type 0} (id : X → ℤ) (all : List ℤ) (xs : List X) → AreAmong all (map id xs)
    → list_any (λ x. not (list_any (int_eq (id x)) all)) xs ≡ false
none_missing id all [] among = refl
none_missing id all (x ∷ xs) among =
    ap (λ b. not b || list_any (λ x. not (list_any (int_eq (id x)) all)) xs)
    (own_first all (id x) (map id xs) among)
    ∙ none_missing id all xs (among_rest all (id x) (map id xs) among)
