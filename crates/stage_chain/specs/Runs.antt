-- What a run leaves of a folder.
use Rattle.std.specs.Prelude.{ℕ, ◌≡◌, ◌⊎◌, not, Bool, false, List, [], ◌∷◌, ◌++◌, map, filter}
use Rattle.std.specs.Prelude.{Option, Some, ⊤}
use Rattle.std.specs.Option.{option_map}
use Rattle.std.specs.FinMap as files
use Rattle.plan_files.specs.declared.write.Write.{Write}
use Rattle.plan_files.specs.declared.write.Write.TheVariants.{Put, Removal}
use Rattle.plan_files.specs.Applied.{AreCutShort}
use Rattle.plan_files.specs.Changes.{folder_after, left_by, write_name}
use Rattle.plan_files.specs.Folder.{Folder}
pub use Rattle.plan_files.specs.Folder.{same_bytes}
use Rattle.plan_files.specs.Others.{AreOutside}
use Rattle.giv_files.specs.declared.made.MadeFile.{MadeFile}
use Rattle.tables.specs.FileNames.{file_name}
use Rattle.stage_chain.specs.declared.outcome.ChainFault.{ChainFault}
use Rattle.command_line.specs.declared.mode.Mode.{Mode}
use Rattle.command_line.specs.declared.mode.Mode.TheVariants as mode
use Rattle.stage_chain.specs.declared.outcome.Outcome.{Outcome}
use Rattle.stage_chain.specs.Ends.{file_fault_of}
use Rattle.stage_chain.specs.Hand.{is_among, is_hand, keep_names, names_made_by, hand_of}
use Rattle.stage_chain.specs.Built.{RunParts, made}
use Rattle.stage_chain.specs.Kept.{IsKeptHonest, made_over, new_entries, trace_over}
use Rattle.stage_chain.specs.StageParts.{StageParts}

-- the name of a made file
abbrev pub name_of : MadeFile → List ℕ
name_of file = file_name file.file

-- a folder with files put into it, one after the other
abbrev pub with_files : List MadeFile → Folder → Folder
with_files [] folder = folder
with_files (file ∷ more) folder = with_files more (files.insert folder (name_of file) file.text)

module _ (S : StageParts) where
  -- a folder without the files that the built stages make
  abbrev pub without_made : Folder → Folder
  without_made folder = files.retain_keys folder (λ name. not (is_among name (names_made_by S.places)))

  -- those files alone
  abbrev pub made_part : Folder → Folder
  made_part folder = files.retain_keys folder (λ name. is_among name (names_made_by S.places))

-- the writes that bring a folder there: a put of each file that was made, and a removal of each
-- other one that the stages make
abbrev pub put_of : MadeFile → Write
put_of file = Put (name_of file) file.text

abbrev pub names_besides : List MadeFile → List (List ℕ) → List (List ℕ)
names_besides made_files names = filter (λ name. not (is_among name (map name_of made_files))) names

module _ (S : StageParts) where
  unfoldable pub writes_for : List MadeFile → List Write
  writes_for made_files =
      map put_of made_files ++ map Removal (names_besides made_files (names_made_by S.places))

-- ---- writes that change something

-- a folder has already what a write leaves
abbrev pub is_met : Folder → Write → Bool
is_met folder write = same_bytes (files.get folder (write_name write)) (left_by write)

-- those of some writes that change a folder
abbrev pub unmet : Folder → List Write → List Write
unmet folder writes = filter (λ write. not (is_met folder write)) writes

module _ (S : StageParts) where
  -- ---- a run over what a folder keeps

  -- what is made of the hand files of a folder over what it keeps
  abbrev pub run_over : Folder → RunParts
  run_over folder = made_over S folder (hand_of folder)

  -- the new entries of the stages that were made
  unfoldable pub entries_over : Folder → List Write
  entries_over folder = new_entries folder (trace_over S folder (hand_of folder)).visits

  -- The folder after a run: of the files that the built stages make it has those that were made, and no
  -- others. It has the new entry of each stage that was made and not kept. Every other file is as
  -- before.
  unfoldable pub after : Folder → Folder
  after folder =
      folder_after (entries_over folder) (with_files (run_over folder).files (without_made S folder))

  -- The writes of a run over a folder: those of made files that change something, and new entries.
  unfoldable pub writes_of : Folder → List Write
  writes_of folder = unmet folder (writes_for S (run_over folder).files) ++ entries_over folder

-- ---- both modes

-- a folder without what is kept
abbrev pub without_keep : Folder → Folder
without_keep folder = files.retain_keys folder (λ name. not (is_among name keep_names))

-- the folder over which the chain of a run goes: a fresh one first removes what is kept
abbrev pub started : Mode → Folder → Folder
started mode.Make folder = folder
started mode.Fresh folder = without_keep folder

module _ (S : StageParts) where
  -- what a run is told to trust: a fresh one trusts nothing that is kept
  abbrev pub Trusts : Mode → Folder → Type 0
  Trusts mode.Make folder = IsKeptHonest S folder
  Trusts mode.Fresh folder = ⊤

-- the removals that come first
abbrev pub removed : Mode → Folder → List Write
removed mode.Make folder = []
removed mode.Fresh folder = unmet folder (map Removal keep_names)

-- the files of a folder in which stages keep
abbrev pub kept_part : Folder → Folder
kept_part folder = files.retain_keys folder (λ name. is_among name keep_names)

module _ (S : StageParts) where
  -- After a fresh run over a folder what is kept are the new entries, and nothing else.
  unfoldable pub FreshKeeps : Folder → Type 0
  FreshKeeps folder = kept_part (after S (without_keep folder))
      ≡ folder_after (entries_over S (without_keep folder)) files.empty

-- no two of some writes have one name
abbrev pub IsOnce : List Write → Type 0
IsOnce [] = ⊤
IsOnce (write ∷ writes) =
    (is_among (write_name write) (map write_name writes) ≡ false) × IsOnce writes

-- the outcome is what a run makes
pub record IsOutcome (run : RunParts) (outcome : Outcome) : Type 0 where
  pub report : outcome.report ≡ run.report
  pub end : outcome.end ≡ run.end

module _ (S : StageParts) where
  -- the folder and the writes that a finished run leaves
  pub record IsLeft (mode : Mode) (read : Folder) (left : Option Folder) (before now : Option (List Write)) : Type
      0 where
    pub folder : left ≡ Some (after S (started mode read))
    pub writes : now ≡ option_map (λ writes. writes ++ (removed mode read ++ writes_of S (started mode read))) before

  -- a run makes what is made from scratch, and so it reports and ends
  pub record IsFromScratch (run : RunParts) (hand : Folder) : Type 0 where
    pub files : run.files ≡ (made S hand).files
    pub report : run.report ≡ (made S hand).report
    pub end : run.end ≡ (made S hand).end

-- the files that people write, and every other file that no stage makes or keeps, are as before,
-- where a folder is told
abbrev pub SameHand : Option Folder → Option Folder → Type 0
SameHand old new = option_map hand_of new ≡ option_map hand_of old

-- What is left where not all writes were made, by why they were not: nothing was written yet, or
-- some first ones were made. Only after the fault of a file the next one may be made in part.
abbrev pub AreNotAll : ChainFault → List Write → Option Folder → Option Folder → Option (List Write)
    → Option (List Write) → Type 0
AreNotAll fault writes old new before now =
    ((new ≡ old) × (now ≡ before)) ⊎ AreCutShort (file_fault_of fault) writes old new before now

module _ (S : StageParts) where
  -- what a run leaves that did not finish: not all removals were made, or all of them and then not all
  -- writes
  abbrev pub IsUnfinished : Mode → ChainFault → Folder → Option Folder → Option (List Write)
      → Option (List Write) → Type 0
  IsUnfinished mode.Make fault read new before now =
      AreNotAll fault (writes_of S read) (Some read) new before now
  IsUnfinished mode.Fresh fault read new before now =
      AreNotAll fault (removed mode.Fresh read) (Some read) new before now
      ⊎ AreNotAll fault (writes_of S (without_keep read)) (Some (without_keep read)) new
      (option_map (λ writes. writes ++ removed mode.Fresh read) before) now

-- where the list of writes is told, those that were added name no file that people write
pub record AddsNoHandFile (before now : Option (List Write)) : Type 0 where
  pub added : List Write
  pub noted : now ≡ option_map (λ writes. writes ++ added) before
  pub apart : AreOutside is_hand added
