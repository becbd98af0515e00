-- What is kept of files stays right.
use Rattle.plan_num.proofs.Common.{◌≡◌, ℕ, Bool, true, false, cond, List, Option, Some, None}
use Rattle.plan_num.proofs.Common.{IfSome, refl, ap, sym, subst, option_map, bytes_eq}
use Rattle.plan_num.proofs.Common.{bytes_eq-Decides, Ok}
use Rattle.plan_files.proofs.Common.{Folder}
use Rattle.config_keys.specs.declared.kept_files.KeptFiles.{KeptFiles}
use Rattle.config_keys.specs.declared.settings_file.SettingsFile.{SettingsFile}
use Rattle.config_keys.specs.Items.{look_in}
use Rattle.config_keys.specs.PartsOfReading.{FetchGives}
use Rattle.config_keys.specs.SettingsFiles.{kept_at, AllKept, GotSays, Says}
use Rattle.plan_files.specs.declared.store.Got.{Got}
use Rattle.plan_files.specs.declared.store.Got.TheVariants.{Bytes}

-- where nothing is kept, all is right
pub none_kept : (contents : Option Folder) (kept : KeptFiles) → ((path : List ℕ) → kept_at kept path ≡ None)
    → IfSome contents (λ folder. AllKept (look_in folder) kept)
none_kept None kept none = tt
none_kept (Some folder) kept none = λ path. rw (none path) tt

-- a file that is put under a path is the one file more
pub put_maps : {X : Type 0} (value : X → SettingsFile) (now before : Option X) (put : X) (file : SettingsFile)
    (t : Bool) → value put ≡ file → now ≡ cond t (Some put) before
    → option_map value now ≡ cond t (Some file) (option_map value before)
put_maps value now before put file true is sets = rw sets (ap Some is)
put_maps value now before put file false is sets = rw sets refl

-- a file that says what was found under its path leaves all that is kept right
one_kept : (look : List ℕ → Got) (path text at : List ℕ) (file : SettingsFile) (kept : Option SettingsFile)
    (t : Bool) → bytes_eq path at ≡ t → look path ≡ Bytes text → Says text file
    → IfSome kept (GotSays (look at)) → IfSome (cond t (Some file) kept) (GotSays (look at))
one_kept look path text at file kept true same found says right =
    subst (λ name. GotSays (look name) file) ((bytes_eq-Decides path at).0 same)
    (subst (λ got. GotSays got file) (sym found) says)
one_kept look path text at file kept false other found says right = right

pub file_kept : (contents : Option Folder) (before after : KeptFiles) (optional : Bool)
    (path text : List ℕ) (got : Option (List ℕ)) (file : SettingsFile) → got ≡ Some text
    → IfSome contents (λ folder. FetchGives optional path (look_in folder path) (Ok got))
    → Says text file
    → ((at : List ℕ) → kept_at after at ≡ cond (bytes_eq path at) (Some file) (kept_at before at))
    → IfSome contents (λ folder. AllKept (look_in folder) before → AllKept (look_in folder) after)
file_kept None before after optional path text got file is found says keeps = tt
file_kept (Some folder) before after optional path text got file is found says keeps = λ right at.
    subst (λ kept. IfSome kept (GotSays (look_in folder at))) (sym (keeps at))
    (one_kept (look_in folder) path text at file (kept_at before at) (bytes_eq path at) refl
    (subst (λ it. FetchGives optional path (look_in folder path) (Ok it)) is found) says (right at))
