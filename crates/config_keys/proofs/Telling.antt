-- Rows of a text are told in sections.
use Rattle.plan_num.proofs.Common.{arith, ◌≡◌, ◌≢◌, ℕ, suc, ◌+◌, ◌-◌, ◌<◌, ◌≤◌, Bool, true, false}
use Rattle.plan_num.proofs.Common.{eqb, ltb, cond, List, [], ◌∷◌, ◌++◌, length, Option, Some, None}
use Rattle.plan_num.proofs.Common.{string_bytes, refl, sym, ap, ◌∙◌, flat_map, append_assoc}
use Rattle.plan_num.proofs.Common.{append-nil, flat_map-append, nat_tests}
use Rattle.plan_files.specs.declared.store.Got.{Got}
use Rattle.text_fields.specs.Rows.{Row, rows, has_mark}
use Rattle.giv_files.specs.declared.key.Key.{Key}
use Rattle.tables.specs.declared.read_fault.RowFault.{RowFault}
use Rattle.tables.specs.declared.row_why.RowWhy.TheVariants as why
use Rattle.config_keys.specs.declared.config_fault.ConfigFault.{ConfigFault}
use Rattle.config_keys.specs.declared.config_fault.ConfigFault.TheVariants as fault
use Rattle.config_keys.specs.declared.settings_file.IncludeRow.{IncludeRow}
use Rattle.config_keys.specs.declared.settings_file.Section.{Section}
use Rattle.config_keys.specs.declared.settings_file.Sections.{Sections}
use Rattle.config_keys.specs.declared.settings_file.FaultRow.{FaultRow}
use Rattle.config_keys.specs.declared.settings_file.Turn.{Turn}
use Rattle.config_keys.specs.declared.settings_file.Turn.TheVariants as turn
use Rattle.config_keys.specs.declared.settings_file.BadRow.TheVariants as bad
use Rattle.config_keys.specs.Includes.{is_inside, path_of}
use Rattle.config_keys.specs.Items.{Item, Setting, Include, Fault, include_item, row_item, first_fault, include_count}
use Rattle.config_keys.specs.ReadSoFar.{text_of, said_items, SaysOn}
use Rattle.config_keys.specs.SettingsFiles.{kept_item, fault_by, fault_items, turn_items}
use Rattle.config_keys.specs.SettingsFiles.{follow_items, section_items, told_items, TellsOn}
use Rattle.config_keys.specs.SettingsFiles.{brings, RowGives, IncludeTold, RowsTold, TextTold, Says}
use Rattle.config_keys.proofs.Alike.{alike_refl, alike_then, alike_behind, alike_fault, alike_stopped, back_none}
use Rattle.config_keys.proofs.Rows.{outside, kept}
use Rattle.config_keys.proofs.SaidItems.{setting_alike, nothing_said}
use Rattle.config_keys.proofs.Steps.{include_count-append}

-- ---- a section holds an include row, so that there are few of them without a fault

few_more : (count : ℕ) (rest : List Item) (last : ConfigFault) (t : Bool) → ltb count 1000 ≡ t
    → (first_fault (count + 1) rest ≡ None → include_count rest ≤ 1000 - (count + 1))
    → cond t (first_fault (count + 1) rest) (Some last) ≡ None → include_count rest + 1 ≤ 1000 - count
few_more count rest last true e few none = grind (arith, nat_tests, few)
few_more count rest last false e few none = absurd (cc)

few : (count : ℕ) (xs : List Item) → first_fault count xs ≡ None → include_count xs ≤ 1000 - count
unfolding first_fault include_count
few count [] none = omega arith
few count (Setting key value ∷ xs) none = few count xs none
few count (Include file row optional path ∷ xs) none =
    few_more count xs (fault.TooManyIncludes file row) (ltb count 1000) refl (few (count + 1) xs) none
few count (Fault reason ∷ xs) none = absurd (cc)

module _ (look : List ℕ → Got) (inner : List ℕ → List ℕ → List Item) (left : ℕ) (file : List ℕ) where
  follow_counted : (deep : Bool) (reason : ConfigFault) (number : ℕ) (optional : Bool) (path : List ℕ)
      (rest : List Item) (count : ℕ)
      → first_fault count
      (follow_items look inner left file (cond deep (Fault reason) (Include file number optional path)) ++ rest) ≡ None
      → 1 ≤ include_count
      (follow_items look inner left file (cond deep (Fault reason) (Include file number optional path)))
  unfolding first_fault include_count
  follow_counted true reason number optional path rest count none = absurd (cc)
  follow_counted false reason number optional path rest count none = omega arith

  section_counted : (section : Section) (more : ℕ) (rest : List Item) (count : ℕ)
      → ((from : ℕ) → first_fault from rest ≡ None → more ≤ include_count rest)
      → first_fault count (section_items look inner left file section ++ rest) ≡ None
      → suc more ≤ include_count (section_items look inner left file section ++ rest)
  section_counted section more rest count some none =
      let said = said_items section.said in
      let follow = follow_items look inner left file (kept_item left file section.include) in
      let behind : first_fault (count + include_count said) (follow ++ rest) ≡ None =
      back_none count said (follow ++ rest) (sym (ap (first_fault count) (append_assoc said follow rest)) ∙ none) in
      let one : 1 ≤ include_count follow = follow_counted (eqb left 0) (fault.TooDeep file section.include.row)
      section.include.row section.include.optional (string_bytes section.include.path) rest _ behind in
      let last : more ≤ include_count rest = some _ (back_none _ follow rest behind) in
      rw (include_count-append (said ++ follow) rest, include_count-append said follow) (omega (arith, one, last))

  sections_counted : (sections : List Section) (rest : List Item) (count : ℕ)
      → first_fault count (flat_map (section_items look inner left file) sections ++ rest) ≡ None
      → length sections ≤ include_count (flat_map (section_items look inner left file) sections ++ rest)
  sections_counted [] rest count none = omega arith
  sections_counted (section ∷ sections) rest count none =
      let items = section_items look inner left file section in
      let more = flat_map (section_items look inner left file) sections in
      rw (append_assoc items more rest)
      (section_counted section (length sections) (more ++ rest) count (sections_counted sections rest)
      (sym (ap (first_fault count) (append_assoc items more rest)) ∙ none))

  -- more sections than include rows are read
  stopped : (told : Sections) → 1000 < length told.sections.items → (count : ℕ)
      → first_fault count (told_items look inner left file told) ≢ None
  stopped told many count none = grind (arith, sections_counted, few)

  -- a section more
  section_more : (old new : Sections) (include : IncludeRow) (rest : List Item)
      → new.sections.items ≡ old.sections.items ++ (record { said = old.rest; include = include }) ∷ []
      → ((k : Key) → text_of new.rest k ≡ None)
      → told_items look inner left file
      old ++ (follow_items look inner left file (kept_item left file include) ++ rest)
      ≡ told_items look inner left file new ++ rest
  section_more old new include rest more nothing =
      rw (
        more,
        nothing_said new.rest nothing,
        flat_map-append (section_items look inner left file) old.sections.items
            ((record { said = old.rest; include = include }) ∷ []),
      )
      (grind (arith, append_assoc, append-nil))

-- ---- what taking a row gives

-- a setting
pub setting_told : (row : Row) (name value : List ℕ) (old new : Sections)
    → ((left : ℕ) (file : List ℕ) → row_item left file row ≡ Setting name value)
    → new.sections ≡ old.sections → SaysOn (Setting name value ∷ []) old.rest new.rest → RowGives row old new turn.Next
setting_told row name value old new is same says rest look inner left file =
    let front = flat_map (section_items look inner left file) old.sections.items in
    rw (
      is left file,
      same,
      append_assoc front (said_items old.rest) (Setting name value ∷ rest),
      append_assoc front
          (said_items new.rest) rest,
    )
    (alike_behind front _ _ (setting_alike name value old.rest new.rest rest says))

-- a row that is refused
pub refused_told : (row : Row) (old : Sections) (refused : FaultRow)
    → ((left : ℕ) (file : List ℕ) → row_item left file row ≡ Fault (fault_by file refused.row refused.why))
    → RowGives row old old (turn.Fault refused)
refused_told row old refused is rest look inner left file = grind (arith, alike_behind, alike_fault)

-- an include row
pub include_told : (row : Row) (number : ℕ) (optional : Bool) (name : List ℕ) (old new : Sections) (turn : Turn)
    → ((left : ℕ) (file : List ℕ) → row_item left file row ≡ include_item left file number optional name)
    → IncludeTold number optional name old new turn → RowGives row old new turn
include_told row number optional name old new turn is told rest look inner left file = grind arith

-- an include row of a file of another folder
pub outside_told : (number : ℕ) (optional : Bool) (name : List ℕ) (old : Sections) → is_inside name ≡ false
    → IncludeTold number optional name old old (turn.Fault (record { row = number; why = bad.Outside }))
outside_told number optional name old e rest look inner left file = grind (
  arith,
  outside,
  alike_behind,
  alike_fault,
)

module _ (number : ℕ) (optional : Bool) (name : List ℕ) (old new : Sections) (include : IncludeRow)
    (inside : is_inside name ≡ true)
    (row_is : include.row ≡ number) (optional_is : include.optional ≡ optional)
    (path_is : string_bytes include.path ≡ path_of name)
    (more : new.sections.items ≡ old.sections.items ++ (record { said = old.rest; include = include }) ∷ [])
    (nothing : (k : Key) → text_of new.rest k ≡ None) where
  -- one that is kept
  pub next_told : IncludeTold number optional name old new turn.Next
  next_told rest look inner left file = grind (arith, kept, section_more, alike_refl)

  -- one after which no further one could be read
  pub enough_told : 1000 < length new.sections.items → IncludeTold number optional name old new turn.Enough
  enough_told many rest look inner left file =
      rw (
        kept left file number optional name include inside row_is optional_is path_is,
        section_more look inner left
            file old new include rest more nothing,
        append-nil (told_items look inner left file new),
      )
      (alike_stopped (told_items look inner left file new) rest (stopped look inner left file new many))

-- ---- what taking the rows of a text gives

-- one row more
pub rows_more : (all now rest : List Row) (row : Row) (old mid new : Sections) → now ≡ row ∷ rest
    → TellsOn old (brings all) mid (brings now)
    → RowGives row mid new turn.Next → TellsOn old (brings all) new (brings rest)
rows_more all now rest row old mid new is told gives look inner left file =
    alike_then _ _ _ (rw is at (told look inner left file))
    (gives (brings rest look inner left file) look inner left file)

-- rows after which no more is read
pub rows_stop : (all now rest : List Row) (row : Row) (old mid new : Sections) (turn : Turn)
    (refused : Option FaultRow) → now ≡ row ∷ rest → TellsOn old (brings all) mid (brings now)
    → RowGives row mid new turn
    → ((file : List ℕ) (rest : List Item) → turn_items file turn rest ≡ fault_items file refused)
    → RowsTold all old new refused
rows_stop all now rest row old mid new turn refused is told gives ends look inner left file =
    rw (← ends file (brings rest look inner left file))
    (alike_then _ _ _ (rw is at (told look inner left file))
    (gives (brings rest look inner left file) look inner left file))

-- at first
pub rows_begin : (all : List Row) (told : Sections) → TellsOn told (brings all) told (brings all)
rows_begin all told look inner left file = alike_refl _

-- all rows
pub rows_all : (all now : List Row) (old new : Sections) → now ≡ [] → TellsOn old (brings all) new (brings now)
    → RowsTold all old new None
rows_all all now old new none told look inner left file = rw none at (told look inner left file)

-- the rows of a text without a mark
pub text_rows : (text : List ℕ) (all : List Row) (old new : Sections) (refused : Option FaultRow)
    → has_mark text ≡ false → all ≡ rows text → RowsTold all old new refused → TextTold text old new refused
text_rows text all old new refused plain is told look inner left file = rw (plain, ← is) (told look inner left file)

-- a text with a mark
pub text_marked : (text : List ℕ) (told : Sections) (refused : RowFault) → has_mark text ≡ true
    → refused ≡ record { row = 1; why = why.ByteOrderMark }
    → TextTold text told told (Some (record { row = refused.row; why = bad.Form refused.why }))
text_marked text told refused marked is look inner left file = rw (marked, is) (alike_refl _)

-- a text after nothing
pub text_said : (text : List ℕ) (first told : Sections) (refused : Option FaultRow) → first.sections.items ≡ []
    → ((k : Key) → text_of first.rest k ≡ None)
    → TextTold text first told refused → Says text (record { told = told; fault = refused })
text_said text first told refused none nothing is look inner left file =
    rw (none, nothing_said first.rest nothing) at (is look inner left file)
