-- What the parts of reading a config give.
use Rattle.std.specs.Prelude.{ℕ, ◌≡◌, ◌<◌, Bool, List, [], ◌∷◌, Option, Some, None, IfOk, Result, Ok, Err, ⊤}
use Rattle.plan_files.specs.declared.store.Got.{Got}
use Rattle.plan_files.specs.declared.store.Got.TheVariants.{Bytes}
use Rattle.config_keys.specs.declared.config_end.ConfigEnd.{ConfigEnd}
use Rattle.config_keys.specs.declared.config_end.ConfigEnd.TheVariants.{Refused, FileFault, NoMemory}
use Rattle.config_keys.specs.declared.kept_files.KeptFiles.{KeptFiles}
use Rattle.config_keys.specs.declared.reading.Reading.{Reading}
use Rattle.config_keys.specs.declared.settings_file.SettingsFile.{SettingsFile}
use Rattle.config_keys.specs.Items.{Item, Fault, first_fault, got_items}
use Rattle.config_keys.specs.ReadSoFar.{ReadOn, ReadGives}
use Rattle.config_keys.specs.SettingsFiles.{GotSays, AllKept}

-- what is found under a path: a text, or nothing where that may be passed over, or the refusal that it brings
abbrev pub FetchGives : Bool → List ℕ → Got → Result (Option (List ℕ)) ConfigEnd → Type 0
FetchGives optional path got (Ok (Some text)) = got ≡ Bytes text
FetchGives optional path got (Ok None) = (inner : List ℕ → List ℕ → List Item) → got_items inner optional path got ≡ []
FetchGives optional path got (Err (Refused reason)) =
    (inner : List ℕ → List ℕ → List Item) → got_items inner optional path got ≡ Fault reason ∷ []
FetchGives optional path got (Err FileFault) = ⊤
FetchGives optional path got (Err NoMemory) = ⊤

-- what the file under a path says, by what is found there, or nothing, or the refusal that it brings
abbrev pub FileGives : {X : Type 0} → (X → SettingsFile) → Bool → List ℕ → Got → Result (Option X) ConfigEnd → Type 0
FileGives value optional path got (Ok (Some file)) = GotSays got (value file)
FileGives value optional path got (Ok None) =
    (inner : List ℕ → List ℕ → List Item) → got_items inner optional path got ≡ []
FileGives value optional path got (Err (Refused reason)) =
    (inner : List ℕ → List ℕ → List Item) → got_items inner optional path got ≡ Fault reason ∷ []
FileGives value optional path got (Err FileFault) = ⊤
FileGives value optional path got (Err NoMemory) = ⊤

-- what taking an include row gives
abbrev pub IncludeGives : ℕ → Item → Reading → Reading → Result (Unit {0}) ConfigEnd → Type 0
IncludeGives left item old new (Ok _) = (0 < left) × ReadOn (item ∷ []) old new
IncludeGives left item old new (Err (Refused reason)) = first_fault old.includes (item ∷ []) ≡ Some reason
IncludeGives left item old new (Err FileFault) = ⊥
IncludeGives left item old new (Err NoMemory) = ⊤

-- what reading items gives that may bring further files, where what is kept of files is right
abbrev pub KeepGives : (List ℕ → Got) → List Item → KeptFiles → KeptFiles → Reading → Reading
    → Result (Unit {0}) ConfigEnd → Type 0
KeepGives look items kept after old new result =
    AllKept look kept → ReadGives items old new result × IfOk result (λ _. AllKept look after)
