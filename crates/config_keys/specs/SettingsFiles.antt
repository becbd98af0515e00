-- What a settings file says, as it is kept once it is read.
use Rattle.std.specs.Prelude.{ℕ, ◌≡◌, ◌==◌, if◌then◌else◌, Bool, List, [], ◌∷◌, ◌++◌, Option, Some}
use Rattle.std.specs.Prelude.{None, IfSome, string_bytes}
use Rattle.std.specs.List.{flat_map}
use Rattle.std.specs.Option.{option_map}
use Rattle.std.specs.HashMap.{get_by_text}
use Rattle.std.specs.Rc.{rc_value}
use Rattle.plan_files.specs.declared.store.Got.{Got}
use Rattle.plan_files.specs.declared.store.Got.TheVariants.{Bytes, Absent, TooLong as Long}
use Rattle.text_fields.specs.Rows.{Row}
use Rattle.giv_files.specs.declared.key.Key.{Key}
use Rattle.giv_files.specs.Keys.{key_name}
use Rattle.config_keys.specs.declared.config_fault.ConfigFault.{ConfigFault}
use Rattle.config_keys.specs.declared.config_fault.ConfigFault.TheVariants as fault
use Rattle.config_keys.specs.declared.kept_files.KeptFiles.{KeptFiles}
use Rattle.config_keys.specs.declared.settings_file.IncludeRow.{IncludeRow}
use Rattle.config_keys.specs.declared.settings_file.Section.{Section}
use Rattle.config_keys.specs.declared.settings_file.Sections.{Sections}
use Rattle.config_keys.specs.declared.settings_file.BadRow.{BadRow}
use Rattle.config_keys.specs.declared.settings_file.BadRow.TheVariants as bad
use Rattle.config_keys.specs.declared.settings_file.FaultRow.{FaultRow}
use Rattle.config_keys.specs.declared.settings_file.SettingsFile.{SettingsFile}
use Rattle.config_keys.specs.declared.settings_file.Turn.{Turn}
use Rattle.config_keys.specs.declared.settings_file.Turn.TheVariants as turn
use Rattle.config_keys.specs.Items.{Item, Include, Fault, include_item, brought, row_items}
use Rattle.config_keys.specs.Items.{text_items, first_fault, include_count, last_said}
use Rattle.config_keys.specs.ReadSoFar.{said_items}

-- what an include row says that is kept, in a file below which so many levels are left
abbrev pub kept_item : ℕ → List ℕ → IncludeRow → Item
kept_item left file include =
    if left == 0 then Fault (fault.TooDeep file include.row) else Include file include.row include.optional
    (string_bytes include.path)

-- why a row is refused that is refused in any file
abbrev pub fault_by : List ℕ → ℕ → BadRow → ConfigFault
fault_by file row (bad.Form why) = fault.BadRow file row why
fault_by file row bad.Outside = fault.IncludeOutside file row

-- the same as items
abbrev pub fault_items : List ℕ → Option FaultRow → List Item
fault_items file None = []
fault_items file (Some refused) = Fault (fault_by file refused.row refused.why) ∷ []

-- what is read after a row, where that is all that could be read
abbrev pub turn_items : List ℕ → Turn → List Item → List Item
turn_items file turn.Next rest = rest
turn_items file turn.Enough rest = []
turn_items file (turn.Fault refused) rest = fault_items file (Some refused)

module _ (look : List ℕ → Got) (inner : List ℕ → List ℕ → List Item) (left : ℕ) (file : List ℕ) where
  -- what an include row says and brings
  abbrev pub follow_items : Item → List Item
  follow_items item = item ∷ brought look inner item

  -- what a section says and brings
  abbrev pub section_items : Section → List Item
  section_items section = said_items section.said ++ follow_items (kept_item left file section.include)

  -- what sections and the rows after them say and bring
  abbrev pub told_items : Sections → List Item
  told_items told = flat_map section_items told.sections.items ++ said_items told.rest

  -- what a file says and brings
  abbrev pub file_items : SettingsFile → List Item
  file_items it = told_items it.told ++ fault_items file it.fault

-- reading two lists of items gives the same
pub record Alike (xs ys : List Item) : Type 0 where
  pub same : (count : ℕ) → first_fault count xs ≡ first_fault count ys
  pub counts : (count : ℕ) → first_fault count xs ≡ None → include_count xs ≡ include_count ys
  pub says : (count : ℕ) → first_fault count xs ≡ None → (key : Key) (before : Option (List ℕ))
      → last_said (key_name key) before xs ≡ last_said (key_name key) before ys

-- what rows say and bring, by what is found under each path, by what included texts bring, and by
-- the levels and the name of the file
abbrev pub Brought : Type 0
Brought = (List ℕ → Got) → (List ℕ → List ℕ → List Item) → ℕ → List ℕ → List Item

-- what is told at last, and then comes, is read like what was told at first, and then came
abbrev pub TellsOn : Sections → Brought → Sections → Brought → Type 0
TellsOn old came new comes = (look : List ℕ → Got) (inner : List ℕ → List ℕ → List Item) (left : ℕ) (file : List ℕ) →
    Alike (told_items look inner left file old ++ came look inner left file)
    (told_items look inner left file new ++ comes look inner left file)

-- what rows say and bring
abbrev pub brings : List Row → Brought
brings rows look inner left file = flat_map (row_items look inner left file) rows

-- what taking a row gives, whatever rows come after it
abbrev pub RowGives : Row → Sections → Sections → Turn → Type 0
RowGives row old new turn =
    (rest : List Item)
    → TellsOn old (λ look inner left file. row_items look inner left file row ++ rest) new
    (λ look inner left file. turn_items file turn rest)

-- the same of an include row
abbrev pub IncludeTold : ℕ → Bool → List ℕ → Sections → Sections → Turn → Type 0
IncludeTold row optional name old new turn = (rest : List Item) →
    TellsOn old
    (λ look inner left file. follow_items look inner left file (include_item left file row optional name) ++ rest) new
    (λ look inner left file. turn_items file turn rest)

-- what taking rows gives
abbrev pub RowsTold : List Row → Sections → Sections → Option FaultRow → Type 0
RowsTold rows old new refused = TellsOn old (brings rows) new (λ look inner left file. fault_items file refused)

-- what taking a text gives
abbrev pub TextTold : List ℕ → Sections → Sections → Option FaultRow → Type 0
TextTold text old new refused =
    TellsOn old (λ look inner left file. text_items look inner left file text) new
    (λ look inner left file. fault_items file refused)

-- a file that is kept says what its text says
abbrev pub Says : List ℕ → SettingsFile → Type 0
Says text it = (look : List ℕ → Got) (inner : List ℕ → List ℕ → List Item) (left : ℕ) (file : List ℕ) →
    Alike (text_items look inner left file text) (file_items look inner left file it)

-- it says what is found
abbrev pub GotSays : Got → SettingsFile → Type 0
GotSays (Bytes text) it = Says text it
GotSays Absent it = ⊥
GotSays Long it = ⊥

-- what is kept of the file under a path
abbrev pub kept_at : KeptFiles → List ℕ → Option SettingsFile
kept_at kept path = option_map rc_value (get_by_text kept.files path)

-- each file that is kept says what is found under its path
abbrev pub AllKept : (List ℕ → Got) → KeptFiles → Type 0
AllKept look kept = (path : List ℕ) → IfSome (kept_at kept path) (GotSays (look path))
