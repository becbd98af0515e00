-- Reading a file goes section by section, and into the files that it includes.
use Rattle.plan_num.proofs.Common.{◌≡◌, ℕ, zero, suc, ◌+◌, ◌-◌, ◌<◌, ◌≤◌, Bool, true, false, eqb}
use Rattle.plan_num.proofs.Common.{List, [], ◌∷◌, ◌++◌, length, get_or, drop, Option, Some, None}
use Rattle.plan_num.proofs.Common.{IfSome, IfOk, Result, Ok, Err, string_bytes, refl, sym, ap, ◌∙◌}
use Rattle.plan_num.proofs.Common.{subst, arith, flat_map, nat_tests, append_assoc, drop_all}
use Rattle.plan_num.proofs.Common.{drop_more}
use Rattle.std.proofs.Math.Numerals.{sub-one}
use Rattle.plan_files.specs.declared.store.Got.{Got}
use Rattle.plan_files.specs.declared.store.Got.TheVariants.{Bytes, Absent}
use Rattle.plan_files.proofs.Common.{Folder}
use Rattle.plan_files.specs.declared.store.Got.TheVariants.{TooLong as Long}
use Rattle.config_keys.specs.declared.config_end.ConfigEnd.{ConfigEnd}
use Rattle.config_keys.specs.declared.config_end.ConfigEnd.TheVariants.{Refused, FileFault, NoMemory}
use Rattle.config_keys.specs.declared.config_fault.ConfigFault.{ConfigFault}
use Rattle.config_keys.specs.declared.config_fault.ConfigFault.TheVariants as fault
use Rattle.config_keys.specs.declared.kept_files.KeptFiles.{KeptFiles}
use Rattle.config_keys.specs.declared.reading.Reading.{Reading}
use Rattle.config_keys.specs.declared.said.Said.{Said}
use Rattle.config_keys.specs.declared.settings_file.FaultRow.{FaultRow}
use Rattle.config_keys.specs.declared.settings_file.IncludeRow.{IncludeRow}
use Rattle.config_keys.specs.declared.settings_file.Section.{Section}
use Rattle.config_keys.specs.declared.settings_file.SettingsFile.{SettingsFile}
use Rattle.config_keys.specs.Items.{Item, Include, brought, got_items, below, expanded}
use Rattle.config_keys.specs.Items.{first_fault, include_count, last_said, look_in, config_items}
use Rattle.config_keys.specs.Items.{config_name, most_levels}
use Rattle.config_keys.specs.ReadSoFar.{said_items, ReadOn, ReadGives}
use Rattle.config_keys.specs.PartsOfReading.{FileGives, IncludeGives, KeepGives}
use Rattle.config_keys.specs.SettingsFiles.{kept_item, fault_by, fault_items, follow_items}
use Rattle.config_keys.specs.SettingsFiles.{section_items, file_items, GotSays, AllKept}
use Rattle.config_keys.proofs.Alike.{gives_alike}
use Rattle.config_keys.proofs.Steps.{read_none, read_more, gives_more, first_fault-stays, first_fault-further}

-- a file that is included has one level less below it
below_one : (look : List ℕ → Got) (left : ℕ) (path text : List ℕ) → 0 < left
    → below look left path text ≡ expanded look (left - 1) path text
unfolding below expanded
below_one look zero path text h = absurd (omega arith)
below_one look (suc left) path text h = rw sub-one refl

-- items that end the reading end it before more of them
refused_among : (xs ys : List Item) (old new : Reading) (end : ConfigEnd)
    → ReadGives xs old new (Err end) → ReadGives (xs ++ ys) old new (Err end)
refused_among xs ys old new (Refused reason) h = first_fault-stays old.includes xs ys reason h
refused_among xs ys old new FileFault h = tt
refused_among xs ys old new NoMemory h = tt

kept_then : {P : Type 0} (result : Result (Unit {0}) ConfigEnd) → P → IfOk result (λ _. P)
kept_then (Ok done) all = all
kept_then (Err end) all = tt

-- ---- what a file under a path brings

-- by what is kept of it
file_brings : (look : List ℕ → Got) (left : ℕ) (optional : Bool) (path : List ℕ) (got : Got) (it : SettingsFile)
    (old new : Reading) (result : Result (Unit {0}) ConfigEnd) → 0 < left → GotSays got it
    → ReadGives (file_items look (below look (left - 1)) (left - 1) path it) old new result
    → ReadGives (got_items (below look left) optional path got) old new result
unfolding expanded
file_brings look left optional path (Bytes text) it old new result some says gives = grind (
  arith,
  below_one,
  gives_alike,
)
file_brings look left optional path Absent it old new result some says gives = absurd says
file_brings look left optional path Long it old new result some says gives = absurd says

-- a file that is not found ends the reading
unfound : {X : Type 0} (value : X → SettingsFile) (inner : List ℕ → List ℕ → List Item) (optional : Bool)
    (path : List ℕ) (got : Got)
    (mid new : Reading) (end : ConfigEnd) → FileGives value optional path got (Err end)
    → ReadGives (got_items inner optional path got) mid new (Err end)
unfolding first_fault
unfound value inner optional path got mid new (Refused reason) h = rw (h inner) refl
unfound value inner optional path got mid new FileFault h = tt
unfound value inner optional path got mid new NoMemory h = tt

-- ---- an include row

-- what it says where a level is left
kept_is : (left : ℕ) (file : List ℕ) (include : IncludeRow) → 0 < left
    → kept_item left file include ≡ Include file include.row include.optional (string_bytes include.path)
kept_is left file include some = let more : eqb left 0 ≡ false = grind (arith, nat_tests) in rw more refl

-- one below which no level is left
pub too_deep : (count left : ℕ) (file : List ℕ) (include : IncludeRow) (told : List ℕ) → left ≡ 0 → told ≡ file
    → first_fault count (kept_item left file include ∷ []) ≡ Some (fault.TooDeep told include.row)
unfolding first_fault
too_deep count left file include told none is = rw (none, is) refl

-- one after as many as are read
pub too_many : (count left : ℕ) (file : List ℕ) (include : IncludeRow) (told : List ℕ) → 0 < left → 1000 ≤ count
    → told ≡ file
    → first_fault count (kept_item left file include ∷ []) ≡ Some (fault.TooManyIncludes told include.row)
unfolding first_fault
too_many count left file include told some many is = grind (arith, nat_tests, kept_is)

-- one that is counted
pub counted : (left : ℕ) (file : List ℕ) (include : IncludeRow) (old : Reading) → 0 < left → old.includes < 1000
    → (0 < left)
    × ReadOn (kept_item left file include ∷ []) old (record { includes = old.includes + 1; said = old.said })
unfolding first_fault include_count last_said
counted left file include old some few = grind (arith, nat_tests, kept_is)

module _ (left : ℕ) (file : List ℕ) (include : IncludeRow) (old : Reading) (kept : KeptFiles) where
  -- what reading it gives, with what its file brings
  abbrev pub RowReads : Option Folder → KeptFiles → Reading → Result (Unit {0}) ConfigEnd → Type 0
  RowReads contents after new result = IfSome contents (λ folder. KeepGives (look_in folder)
      (follow_items (look_in folder) (below (look_in folder) left) left file (kept_item left file include)) kept after
      old new result)

  -- one that is refused
  pub row_refused : (contents : Option Folder) (after : KeptFiles) (mid new : Reading) (end : ConfigEnd)
      (result : Result (Unit {0}) ConfigEnd)
      → IncludeGives left (kept_item left file include) old mid (Err end) → result ≡ Err end
      → RowReads contents after new result
  row_refused None after mid new end result h e = tt
  row_refused (Some folder) after mid new (Refused reason) result h e = λ all.
      rw e (
        first_fault-stays old.includes (kept_item left file include ∷ [])
            (brought (look_in folder) (below (look_in folder) left) (kept_item left file include)) reason h,
        tt,
      )
  row_refused (Some folder) after mid new FileFault result h e = λ all. absurd h
  row_refused (Some folder) after mid new NoMemory result h e = λ all. rw e (tt, tt)

  -- what its file brings comes behind it
  row_follows : (folder : Folder) (mid new : Reading) (result : Result (Unit {0}) ConfigEnd) → (0 < left)
      × ReadOn (kept_item left file include ∷ []) old mid
      → ReadGives
      (got_items (below (look_in folder) left) include.optional (string_bytes include.path)
      (look_in folder (string_bytes include.path))) mid new result
      → ReadGives
      (follow_items (look_in folder) (below (look_in folder) left) left file (kept_item left file include)) old new
      result
  row_follows folder mid new result taken gives =
      gives_more (kept_item left file include ∷ [])
      (brought (look_in folder) (below (look_in folder) left) (kept_item left file include)) old mid new result taken.1
      (rw (kept_is left file include taken.0) gives)

  module _ {X : Type 0} (value : X → SettingsFile) (mid : Reading) (path : List ℕ)
      (taken : (0 < left) × ReadOn (kept_item left file include ∷ []) old mid)
      (named : path ≡ string_bytes include.path) where
    -- one whose file is not found
    pub row_unfound : (contents : Option Folder) (after : KeptFiles) (new : Reading) (end : ConfigEnd)
        (result : Result (Unit {0}) ConfigEnd)
        → IfSome contents
        (λ folder. AllKept (look_in folder) kept
        → FileGives value include.optional path (look_in folder path) (Err end)) → result ≡ Err end
        → RowReads contents after new result
    row_unfound None after new end result found e = tt
    row_unfound (Some folder) after new end result found e = λ all.
        let there =
        subst (λ name. FileGives value include.optional name (look_in folder name) (Err end)) named (found all) in
        rw e (
          row_follows folder mid new (Err end) taken
              (unfound value (below (look_in folder) left) include.optional (string_bytes include.path)
              (look_in folder (string_bytes include.path)) mid new end there),
          tt,
        )

    -- one whose file is read
    pub row_read : (contents now : Option Folder) (read after : KeptFiles) (file_path : List ℕ) (it : X)
        (new : Reading) (result : Result (Unit {0}) ConfigEnd) → now ≡ contents → file_path ≡ path
        → IfSome contents
        (λ folder. AllKept (look_in folder) kept
        → FileGives value include.optional path (look_in folder path) (Ok (Some it)))
        → IfSome contents (λ folder. AllKept (look_in folder) kept → AllKept (look_in folder) read)
        → IfSome now
        (λ folder. KeepGives (look_in folder)
        (file_items (look_in folder) (below (look_in folder) (left - 1)) (left - 1) file_path (value it)) read after
        mid new result)
        → RowReads contents after new result
    row_read None now read after file_path it new result same also found still gives = tt
    row_read (Some folder) now read after file_path it new result same also found still gives = λ all.
        let there : GotSays (look_in folder (string_bytes include.path)) (value it) = rw named at (found all) in
        let gone = (rw (same, also, named) at gives) (still all) in (
          row_follows folder mid new result taken
              (file_brings (look_in folder) left include.optional (string_bytes include.path)
              (look_in folder (string_bytes include.path)) (value it) mid new result taken.0 there gone.0),
          gone.1,
        )

-- ---- a file

module _ (left : ℕ) (name : List ℕ) (file : SettingsFile) (old : Reading) (kept : KeptFiles) where
  abbrev items_of : Folder → Section → List Item
  items_of folder section = section_items (look_in folder) (below (look_in folder) left) left name section

  -- what comes after the sections
  abbrev pub ends : List Item
  ends = said_items file.told.rest ++ fault_items name file.fault

  -- what reading the file gives
  abbrev pub FileReads : Option Folder → KeptFiles → Reading → Result (Unit {0}) ConfigEnd → Type 0
  FileReads contents after new result = IfSome contents (λ folder. KeepGives (look_in folder)
      (file_items (look_in folder) (below (look_in folder) left) left name file) kept after old new result)

  -- reading the sections that are left gives from here what reading the file gives, and what is kept is right
  abbrev pub Leads : Option Folder → List Section → Reading → KeptFiles → Type 0
  Leads contents rest mid now = IfSome contents (λ folder. AllKept (look_in folder) kept →
      ((new : Reading) (result : Result (Unit {0}) ConfigEnd)
      → ReadGives (flat_map (items_of folder) rest ++ ends) mid new result
      → ReadGives (file_items (look_in folder) (below (look_in folder) left) left name file) old new result)
      × AllKept (look_in folder) now)

  -- at first all sections are left
  pub leads_first : (contents : Option Folder) (sections : List Section) → sections ≡ file.told.sections.items
      → Leads contents sections old kept
  leads_first None sections e = tt
  leads_first (Some folder) sections e = λ all. (
    (λ new result gives.
        rw (
          ← e,
          append_assoc (flat_map (items_of folder) sections) (said_items file.told.rest)
              (fault_items name file.fault),
        ) gives),
    all,
  )

  module _ (sections : List Section) (i : ℕ) (section : Section) (mid between : Reading) (now : KeptFiles)
      (inside : i < length sections)
      (is : section ≡ get_or sections i section) (says : ReadOn (said_items section.said) mid between) where
    -- what a section gives, with those behind it
    section_gives : (folder : Folder) (new : Reading) (result : Result (Unit {0}) ConfigEnd)
        → ReadGives (items_of folder section ++ (flat_map (items_of folder) (drop (i + 1) sections) ++ ends)) mid new
        result
        → ReadGives (flat_map (items_of folder) (drop i sections) ++ ends) mid new result
    section_gives folder new result gives =
        let first : drop i sections ≡ section ∷ drop (i + 1) sections =
        drop_more sections i section inside ∙ ap (λ one. one ∷ drop (i + 1) sections) (sym is) in
        rw (first, append_assoc (items_of folder section) (flat_map (items_of folder) (drop (i + 1) sections)) ends)
        gives

    -- one section more has been read
    pub leads_more : (contents after : Option Folder) (next : Reading) (then : KeptFiles) → after ≡ contents
        → Leads contents (drop i sections) mid now
        → RowReads left name section.include between now after then next (Ok tt)
        → Leads contents (drop (i + 1) sections) next then
    leads_more None after next then same leads read = tt
    leads_more (Some folder) after next then same leads read = λ all.
        let gone = (rw same at read) (leads all).1 in
        let follow = follow_items (look_in folder) (below (look_in folder) left) left name
        (kept_item left name section.include) in
        let over = read_more (said_items section.said) follow mid between next says gone.0 in (
          (λ new result gives. (leads all).0 new result (section_gives folder new result
              (gives_more (items_of folder section) (flat_map (items_of folder) (drop (i + 1) sections) ++ ends) mid
              next new result over gives))),
          gone.1,
        )

    -- a section ends the reading
    pub leads_refused : (contents after : Option Folder) (new : Reading) (then : KeptFiles) (end : ConfigEnd)
        (result : Result (Unit {0}) ConfigEnd) → after ≡ contents → Leads contents (drop i sections) mid now
        → RowReads left name section.include between now after then new (Err end) → result ≡ Err end
        → FileReads contents then new result
    leads_refused None after new then end result same leads read e = tt
    leads_refused (Some folder) after new then end result same leads read e = λ all.
        let gone = (rw same at read) (leads all).1 in
        let follow = follow_items (look_in folder) (below (look_in folder) left) left name
        (kept_item left name section.include) in
        let over = gives_more (said_items section.said) follow mid between new (Err end) says gone.0 in
        rw e (
          (leads all).0 new (Err end) (section_gives folder new (Err end)
              (refused_among (items_of folder section) (flat_map (items_of folder) (drop (i + 1) sections) ++ ends)
              mid new end over)),
          tt,
        )

  -- all sections have been read
  pub leads_last : (contents : Option Folder) (sections : List Section) (i : ℕ) (mid new : Reading) (now : KeptFiles)
      (result : Result (Unit {0}) ConfigEnd) → length sections ≤ i
      → Leads contents (drop i sections) mid now → ReadGives ends mid new result → FileReads contents now new result
  leads_last None sections i mid new now result h leads gives = tt
  leads_last (Some folder) sections i mid new now result h leads gives = λ all.
      ((leads all).0 new result (rw (drop_all i sections h) gives), kept_then result (leads all).1)

-- ---- a file's end

-- a fault after what is said
pub end_refused : (said : Said) (name : List ℕ) (old mid : Reading) (found : Option FaultRow) (refused : FaultRow)
    (told : ConfigFault) → ReadOn (said_items said) old mid
    → found ≡ Some refused → told ≡ fault_by name refused.row refused.why
    → first_fault old.includes (said_items said ++ fault_items name found) ≡ Some told
unfolding first_fault
end_refused said name old mid found refused told h e is = grind (arith, first_fault-further)

-- ---- the config file

-- one that cannot be read
pub config_refused : {X : Type 0} (value : X → SettingsFile) (contents : Option Folder) (kept : KeptFiles)
    (old new : Reading) (end : ConfigEnd) (result : Result (Unit {0}) ConfigEnd)
    → IfSome contents (λ folder. AllKept (look_in folder) kept)
    → IfSome contents
    (λ folder. AllKept (look_in folder) kept → FileGives value true config_name (look_in folder config_name) (Err end))
    → result ≡ Err end → IfSome contents (λ folder. ReadGives (config_items (look_in folder)) old new result)
config_refused value None kept old new end result all found e = tt
config_refused value (Some folder) kept old new end result all found e =
    rw e (unfound value (expanded (look_in folder) most_levels) true config_name (look_in folder config_name) old new
    end (found all))

-- one that is not there
pub config_absent : {X : Type 0} (value : X → SettingsFile) (contents : Option Folder) (kept : KeptFiles)
    (reading : Reading)
    → IfSome contents (λ folder. AllKept (look_in folder) kept)
    → IfSome contents
    (λ folder. AllKept (look_in folder) kept → FileGives value true config_name (look_in folder config_name) (Ok None))
    → IfSome contents (λ folder. ReadOn (config_items (look_in folder)) reading reading)
config_absent value None kept reading all found = tt
config_absent value (Some folder) kept reading all found =
    rw (found all (expanded (look_in folder) most_levels)) (read_none reading)

-- one that is there, by what is found
config_brings : (look : List ℕ → Got) (got : Got) (it : SettingsFile) (old new : Reading)
    (result : Result (Unit {0}) ConfigEnd) → GotSays got it
    → ReadGives (file_items look (below look most_levels) most_levels config_name it) old new result
    → ReadGives (got_items (expanded look most_levels) true config_name got) old new result
unfolding expanded
config_brings look (Bytes text) it old new result says gives = grind (arith, gives_alike)
config_brings look Absent it old new result says gives = absurd says
config_brings look Long it old new result says gives = absurd says

pub config_read : {X : Type 0} (value : X → SettingsFile) (contents now : Option Folder) (kept read after : KeptFiles)
    (it : X) (old new : Reading) (result : Result (Unit {0}) ConfigEnd) → now ≡ contents
    → IfSome contents (λ folder. AllKept (look_in folder) kept)
    → IfSome contents
    (λ folder. AllKept (look_in folder) kept
    → FileGives value true config_name (look_in folder config_name) (Ok (Some it)))
    → IfSome contents (λ folder. AllKept (look_in folder) kept → AllKept (look_in folder) read)
    → IfSome now
    (λ folder. KeepGives (look_in folder)
    (file_items (look_in folder) (below (look_in folder) most_levels) most_levels config_name (value it)) read after
    old new result)
    → IfSome contents (λ folder. ReadGives (config_items (look_in folder)) old new result)
config_read value None now kept read after it old new result same all found still gives = tt
config_read value (Some folder) now kept read after it old new result same all found still gives =
    grind (arith, config_brings)
