-- The faults of an input, part by part, for any limits and rules.
use Rattle.plan_num.proofs.Common.{◌≡◌, ℕ, zero, suc, ◌+◌, ◌<◌, ◌≤◌, arith, Bool, true, false, cond}
use Rattle.plan_num.proofs.Common.{List, [], ◌∷◌, ◌++◌, length, map, get_or, slice_get, take, drop}
use Rattle.plan_num.proofs.Common.{refl, ap, subst, sym, ◌∙◌, Some, None, Result, Ok, Err}
use Rattle.plan_num.proofs.Common.{append_assoc, lt-ltb, le-ltb, ltb-false, at_drop_more}
use Rattle.plan_num.proofs.Common.{at_drop_all, take_more, take_all, map_push, append-nil}
use Rattle.plan_num.proofs.Common.{length-map, map-map, All-cons, All}
use Rattle.tables.specs.declared.counted.Counted.{Counted}
use Rattle.tables.specs.declared.file_id.FileId.{FileId}
use Rattle.tables.specs.declared.row_why.RowWhy.{RowWhy}
use Rattle.tables.specs.declared.refusal.Refusal.{Refusal}
use Rattle.tables.specs.declared.refusal.Refusal.TheVariants as refusal
use Rattle.tables.specs.declared.refusal.StageFault.{StageFault}
use Rattle.tables.specs.declared.refusal.StageFault.TheVariants as stage
use Rattle.tables.specs.Tables.{TableRow, no_row}
use Rattle.tables.specs.Reading.{table_of}
use Rattle.tables.specs.Writing.{InColumns}
use Rattle.tables.proofs.Ranges.{front_none, back_none, table_in_columns}
use Rattle.tables.specs.Inputs.{Numbered, Limit, row_limit, RowRule, TableRule, whole_rule, Input, unnumbered, records, records_of, numbered, cell_faults, limit_faults, broken_whys, row_faults, table_row_faults, fault_at, whole_faults, table_faults, or_else, input_faults, Refuses, UnlessFault}
use Rattle.plan_num.proofs.Lists.{unmapped}

-- ---- lists of faults

-- the first of some items is the first of them and more
pub first_append : {X : Type 0} (all more : List X) (first : X) → slice_get all 0 ≡ Some first
    → slice_get (all ++ more) 0 ≡ Some first
first_append [] more first h = cc
first_append (x ∷ all) more first h = h

first_mapped : {X Y : Type 0} (f : X → Y) (all : List X) (first : X) → slice_get all 0 ≡ Some first
    → slice_get (map f all) 0 ≡ Some (f first)
first_mapped f [] first h = cc
first_mapped f (x ∷ all) first h = let same : x ≡ first = cc in ap (λ y. Some (f y)) same

first_or_else : (all others : List Refusal) (first : Refusal) → slice_get all 0 ≡ Some first
    → slice_get (or_else all others) 0 ≡ Some first
first_or_else [] others first h = cc
first_or_else (x ∷ all) others first h = h

-- a refusal by some faults is one by them and more
pub refused_append : (all more : List Refusal) (fault : StageFault) → Refuses all fault → Refuses (all ++ more) fault
refused_append all more (stage.Refused first) h = first_append all more first h
refused_append all more stage.NoMemory h = tt

-- the same faults, and another property of what is given
pub UnlessFault-weaker : {A : Type 0} (all others : List Refusal) (P Q : A → Type 0)
    (r : Result A StageFault) → all ≡ others → ((made : A) → P made → Q made) → UnlessFault all P r
    → UnlessFault others Q r
UnlessFault-weaker all others P Q (Ok made) same weaker h = (sym same ∙ h.0, weaker made h.1)
UnlessFault-weaker all others P Q (Err fault) same weaker h = subst (λ faults. Refuses faults fault) same h

-- ---- cells

module _ {X : Type 0} (input : Input X) (text : List ℕ) where
  -- a text that is refused by a cell
  pub refused_cells : (fault : StageFault)
      → Refuses (cell_faults input.file input.columns text) fault
      → Refuses (input_faults input text) fault
  unfolding input_faults
  refused_cells (stage.Refused first) h = first_or_else _ _ first h
  refused_cells stage.NoMemory h = tt

  -- a text whose cells have no fault
  pub faults_of_table : (rows : List TableRow) → cell_faults input.file input.columns text ≡ []
      → rows ≡ table_of input.columns text → table_faults input rows ≡ input_faults input text
  unfolding input_faults
  faults_of_table rows none is = ap (table_faults input) is
      ∙ sym (ap (λ all. or_else all (table_faults input (table_of input.columns text))) none)

-- ---- a list of limits, of rules of rows, and of rules of a whole file: the first, and those behind it

module _ {X : Type 0} (limit : Limit X) (limits : List (Limit X)) (rows : List X) where
  -- a limit that is passed refuses the rows
  pub limit_passed : limit.most < limit.count rows
      → slice_get (limit_faults (limit ∷ limits) rows) 0
      ≡ Some (refusal.TooMany limit.what (limit.count rows))
  limit_passed h = ap (λ b. slice_get
      (cond b (refusal.TooMany limit.what (limit.count rows) ∷ []) [] ++ limit_faults limits rows)
      0) (lt-ltb limit.most (limit.count rows) h)

  -- and one that is kept leaves those behind it
  pub limit_kept : limit.count rows ≤ limit.most → limit_faults limits rows ≡ []
      → limit_faults (limit ∷ limits) rows ≡ []
  limit_kept h rest = ap (λ b. cond b (refusal.TooMany limit.what (limit.count rows) ∷ []) []
      ++ limit_faults limits rows) (le-ltb limit.most (limit.count rows) h) ∙ rest

  -- where no limit is passed, the first is kept, and those behind it are
  pub limits_sound : limit_faults (limit ∷ limits) rows ≡ [] → (limit.count rows ≤ limit.most)
      × (limit_faults limits rows ≡ [])
  limits_sound none = grind (arith, ltb-false, front_none, back_none)

module _ {X : Type 0} (rule : RowRule X) (rules : List (RowRule X)) (before : List X) (row : X) where
  -- a rule that a row breaks is its first reason
  pub rule_broken : rule.is_broken before row ≡ true
      → slice_get (broken_whys (rule ∷ rules) before row) 0 ≡ Some rule.why
  rule_broken h = ap (λ b. slice_get (cond b (rule.why ∷ []) [] ++ broken_whys rules before row) 0) h

  -- and one that it keeps leaves those behind it
  pub rule_kept : rule.is_broken before row ≡ false → broken_whys (rule ∷ rules) before row
      ≡ broken_whys rules before row
  rule_kept h = ap (λ b. cond b (rule.why ∷ []) [] ++ broken_whys rules before row) h

  -- where a row breaks no rule, it keeps the first, and those behind it
  pub rules_sound : broken_whys (rule ∷ rules) before row ≡ [] → (rule.is_broken before row ≡ false)
      × (broken_whys rules before row ≡ [])
  rules_sound none = grind (arith, front_none, back_none)

module _ {X : Type 0} (file : FileId) (rule : TableRule X) (rules : List (TableRule X)) (rows : List (Numbered X)) where
  -- a rule that a file breaks is its first fault
  pub whole_broken : (row : ℕ) → rule.broken_at rows ≡ Some row
      → slice_get (whole_faults file (rule ∷ rules) rows) 0
      ≡ Some (refusal.BadRow file row rule.why)
  whole_broken row h = ap (λ at. slice_get (fault_at file rule.why at ++ whole_faults file rules rows) 0) h

  -- and one that it keeps leaves those behind it
  pub whole_kept : rule.broken_at rows ≡ None → whole_faults file (rule ∷ rules) rows ≡ whole_faults file rules rows
  whole_kept h = ap (λ at. fault_at file rule.why at ++ whole_faults file rules rows) h

  -- where a file breaks no rule, it keeps the first, and those behind it
  pub whole_sound : whole_faults file (rule ∷ rules) rows ≡ [] → (rule.broken_at rows ≡ None)
      × (whole_faults file rules rows ≡ [])
  whole_sound none = grind (arith, front_none, back_none)

-- ---- the parts of a table

module _ {X : Type 0} (input : Input X) (rows : List TableRow) where
  -- a table that is refused by a limit, by a row where no limit is passed, or by a rule of it as a whole where no
  -- row is at fault
  pub refused_limits : (fault : StageFault)
      → Refuses (limit_faults input.limits (records input rows)) fault
      → Refuses (table_faults input rows) fault
  refused_limits fault by = refused_append _ _ fault (refused_append _ _ fault by)

  pub refused_rows : (fault : StageFault) → limit_faults input.limits (records input rows) ≡ []
      → Refuses (table_row_faults input rows) fault → Refuses (table_faults input rows) fault
  refused_rows fault few by = grind (arith, refused_append)

  pub refused_whole : (fault : StageFault) → limit_faults input.limits (records input rows) ≡ []
      → table_row_faults input rows ≡ []
      → Refuses (whole_faults input.file input.table_rules (numbered input rows)) fault
      → Refuses (table_faults input rows) fault
  refused_whole fault few none by = grind arith

  -- a table without a fault in any of them
  pub no_faults : limit_faults input.limits (records input rows) ≡ [] → table_row_faults input rows
      ≡ [] → whole_faults input.file input.table_rules (numbered input rows) ≡ []
      → table_faults input rows ≡ []
  no_faults few none kept = rw (few, none, kept) refl

  pub table_sound : table_faults input rows ≡ []
      → (limit_faults input.limits (records input rows) ≡ []) × (table_row_faults input rows ≡ [])
      × (whole_faults input.file input.table_rules (numbered input rows) ≡ [])
  table_sound none = grind (arith, front_none, back_none)

-- ---- a rule of a whole file that names no row

module _ {X : Type 0} (input : Input X) (rows : List TableRow) where
  pub unnumbered_records : unnumbered (numbered input rows) ≡ records input rows
  unnumbered_records = map-map (λ (at : Numbered X). at.row)
      (λ (row : TableRow). record { number = row.number; row = input.read row.cells }) rows

  module _ (is_broken : List X → Bool) (why : RowWhy) (rules : List (TableRule X)) where
    pub whole_rule_broken : is_broken (records input rows) ≡ true
        → slice_get (whole_faults input.file (whole_rule is_broken why ∷ rules)
        (numbered input rows)) 0 ≡ Some (refusal.BadRow input.file 0 why)
    whole_rule_broken h = whole_broken input.file (whole_rule is_broken why) rules
        (numbered input rows) 0 (ap (λ some. cond (is_broken some) (Some 0) None) unnumbered_records
        ∙ ap (λ b. cond b (Some 0) None) h)

    pub whole_rule_kept : is_broken (records input rows) ≡ false
        → whole_faults input.file (whole_rule is_broken why ∷ rules) (numbered input rows)
        ≡ whole_faults input.file rules (numbered input rows)
    whole_rule_kept h = whole_kept input.file (whole_rule is_broken why) rules (numbered input rows)
        (ap (λ some. cond (is_broken some) (Some 0) None) unnumbered_records
        ∙ ap (λ b. cond b (Some 0) None) h)

    pub whole_rule_sound : whole_faults input.file (whole_rule is_broken why ∷ rules)
        (numbered input rows) ≡ [] → (is_broken (records input rows) ≡ false)
        × (whole_faults input.file rules (numbered input rows) ≡ [])
    whole_rule_sound none = grind (arith, whole_sound, unnumbered_records)

-- ---- a table with one limit, that of its rows

module _ {X : Type 0} (input : Input X) (rows : List TableRow) (what : Counted) (most : ℕ)
    (limits : input.limits ≡ row_limit what most ∷ []) where
  counted : length (records input rows) ≡ length rows
  counted = length-map rows (λ row. input.read row.cells)

  -- more rows than there may be
  pub too_many : most < length rows → slice_get (table_faults input rows) 0 ≡ Some (refusal.TooMany what (length rows))
  too_many h = grind (arith, refused_limits, slice_get, limit_passed, counted)

-- ---- rows, one after the other, which stand for something and have a number

module _ {S X : Type 0} (number : S → ℕ) (of : S → X) (file : FileId) (rules : List (RowRule X)) where
  -- with the number of each
  abbrev pub told : List S → List (Numbered X)
  told rows = map (λ row. record { number = number row; row = of row }) rows

  module _ (rows : List S) (i : ℕ) (d : S) where
    -- what rows stand for where there is one more
    pub more : i < length rows → map of (take (i + 1) rows) ≡ map of (take i rows) ++ of (get_or rows i d) ∷ []
    more h = ap (map of) (take_more rows i d h) ∙ map_push of (take i rows) (get_or rows i d)

    -- the rules that the row at a place breaks come before those that later rows break
    pub next : i < length rows → row_faults file rules (map of (take i rows)) (told (drop i rows))
        ≡ map (λ why. refusal.BadRow file (number (get_or rows i d)) why)
        (broken_whys rules (map of (take i rows)) (of (get_or rows i d)))
        ++ row_faults file rules (map of (take (i + 1) rows)) (told (drop (i + 1) rows))
    unfolding row_faults
    next h =
        let row = get_or rows i d in
        at_drop_more (λ rest. row_faults file rules (map of (take i rows)) (told rest)) rows i d h
        ∙ ap (λ some. map (λ why. refusal.BadRow file (number row) why)
        (broken_whys rules (map of (take i rows)) (of row))
        ++ row_faults file rules some (told (drop (i + 1) rows))) (sym (more h))

    -- a row that breaks no rule goes to those before
    pub met : i < length rows → broken_whys rules (map of (take i rows)) (of (get_or rows i d)) ≡ []
        → row_faults file rules (map of (take i rows)) (told (drop i rows))
        ≡ row_faults file rules [] (told rows)
        → row_faults file rules (map of (take (i + 1) rows)) (told (drop (i + 1) rows))
        ≡ row_faults file rules [] (told rows)
    met h kept so_far = grind (arith, next, get_or, kept)

    -- the first rule that a row breaks refuses the rows
    pub refused : (why : RowWhy) → i < length rows
        → slice_get (broken_whys rules (map of (take i rows)) (of (get_or rows i d))) 0 ≡ Some why
        → row_faults file rules (map of (take i rows)) (told (drop i rows))
        ≡ row_faults file rules [] (told rows)
        → slice_get (row_faults file rules [] (told rows)) 0 ≡ Some (refusal.BadRow file (number (get_or rows i d)) why)
    refused why h broken so_far =
        ap (λ all. slice_get all 0) (sym so_far ∙ next h)
        ∙ first_append _ _ _ (first_mapped
        (λ reason. refusal.BadRow file (number (get_or rows i d)) reason) _ why broken)

    -- after the last row no row breaks a rule
    pub all_met : length rows ≤ i
        → row_faults file rules (map of (take i rows)) (told (drop i rows))
        ≡ row_faults file rules [] (told rows) → row_faults file rules [] (told rows) ≡ []
    unfolding row_faults
    all_met h so_far = sym so_far
        ∙ at_drop_all (λ rest. row_faults file rules (map of (take i rows)) (told rest)) rows i h

  -- and where they break none, each breaks none after those before it
  pub none_breaks : (before : List X) (rows : List S) (d : S)
      → row_faults file rules before (told rows) ≡ [] → (i : ℕ) → i < length rows
      → broken_whys rules (before ++ map of (take i rows)) (of (get_or rows i d)) ≡ []
  unfolding row_faults
  none_breaks before [] d none i h = absurd (omega arith)
  none_breaks before (row ∷ rows) d none zero h = ap (λ some. broken_whys rules some (of row))
      (append-nil before) ∙ unmapped _ _ (front_none _ _ none)
  none_breaks before (row ∷ rows) d none (suc i) h =
      ap (λ some. broken_whys rules some (of (get_or rows i d)))
      (sym (append_assoc before (of row ∷ []) (map of (take i rows))))
      ∙ none_breaks (before ++ of row ∷ []) rows d
      (back_none (map (λ why. refusal.BadRow file (number row) why)
      (broken_whys rules before (of row))) _ none) i (omega arith)

-- ---- the rows of a table

module _ {X : Type 0} (input : Input X) (rows : List TableRow) (i : ℕ) where
  -- all faults of rows are those of the rows from a place on
  abbrev pub SoundBefore : Type 0
  SoundBefore = row_faults input.file input.row_rules (records input (take i rows))
      (numbered input (drop i rows)) ≡ table_row_faults input rows

  -- what one row more stands for
  pub records_more : i < length rows → records input (take (i + 1) rows)
      ≡ records input (take i rows) ++ input.read (get_or rows i no_row).cells ∷ []
  records_more h = more (λ row. row.number) (λ row. input.read row.cells) input.file input.row_rules rows i no_row h

  -- after the last row all stand for something
  pub records_all : length rows ≤ i → records input (take i rows) ≡ records input rows
  records_all h = ap (records input) (take_all i rows h)

  pub row_met : i < length rows
      → broken_whys input.row_rules (records input (take i rows))
      (input.read (get_or rows i no_row).cells) ≡ [] → SoundBefore
      → row_faults input.file input.row_rules (records input (take (i + 1) rows))
      (numbered input (drop (i + 1) rows)) ≡ table_row_faults input rows
  row_met h kept so_far = met (λ row. row.number)
      (λ row. input.read row.cells) input.file input.row_rules rows i no_row h kept so_far

  pub row_refused : (why : RowWhy) → i < length rows
      → slice_get (broken_whys input.row_rules (records input (take i rows))
      (input.read (get_or rows i no_row).cells)) 0 ≡ Some why → SoundBefore
      → slice_get (table_row_faults input rows) 0
      ≡ Some (refusal.BadRow input.file (get_or rows i no_row).number why)
  row_refused why h broken so_far = refused (λ row. row.number)
      (λ row. input.read row.cells) input.file input.row_rules rows i no_row why h broken so_far

  pub rows_met : length rows ≤ i → SoundBefore → table_row_faults input rows ≡ []
  rows_met h so_far = all_met (λ row. row.number)
      (λ row. input.read row.cells) input.file input.row_rules rows i no_row h so_far

-- ---- texts without a fault

or_else_none : (all others : List Refusal) → or_else all others ≡ [] → (all ≡ []) × (others ≡ [])
or_else_none [] others e = (refl, e)
or_else_none (x ∷ all) others e = cc

module _ {X : Type 0} (input : Input X) where
  -- a text without a fault has none in its cells, and none in its table
  pub parts_sound : (text : List ℕ) → input_faults input text ≡ []
      → (cell_faults input.file input.columns text ≡ [])
      × (table_faults input (table_of input.columns text) ≡ [])
  unfolding input_faults
  parts_sound text none = or_else_none _ _ none

  -- its first limit is kept
  pub few_rows : (text : List ℕ) (limit : Limit X) (limits : List (Limit X)) → input.limits
      ≡ limit ∷ limits → input_faults input text ≡ []
      → limit.count (records_of input text) ≤ limit.most
  few_rows text limit limits is none =
      let few = (table_sound input (table_of input.columns text) (parts_sound text none).1).0 in
      grind (arith, limits_sound)

  kept : (before : List X) (rows : List TableRow)
      → row_faults input.file input.row_rules before (numbered input rows) ≡ []
      → All (λ row. (some : List X)
      × (broken_whys input.row_rules some (input.read row.cells) ≡ [])) rows
  unfolding row_faults
  kept before [] none = λ k d h. absurd (omega arith)
  kept before (row ∷ rows) none =
      All-cons (λ row. (some : List X) × (broken_whys input.row_rules some (input.read row.cells) ≡ [])) row rows
      (before, unmapped _ _ (front_none _ _ none))
      (kept (before ++ input.read row.cells ∷ []) rows (back_none _ _ none))

  -- each row of it breaks no rule after some rows, and its cells are in the ranges of their columns
  pub sound_rows : (text : List ℕ) → input_faults input text ≡ []
      → All (λ row. (some : List X) × (broken_whys input.row_rules some (input.read row.cells) ≡ [])
      × InColumns input.columns row.cells) (table_of input.columns text)
  sound_rows text none =
      let parts = parts_sound text none in
      let rows = kept [] (table_of input.columns text) (table_sound input _ parts.1).1 in
      let cells = table_in_columns input.columns text (unmapped _ _ parts.0) in
      λ k d h. ((rows k d h).0, (rows k d h).1, cells k d h)
