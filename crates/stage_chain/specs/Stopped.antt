-- What a run leaves that is stopped at any moment: some of its writes are made, and the next one may be made
-- in part.
use Rattle.std.specs.Prelude.{ℕ, ◌≡◌, ◌⊎◌, ⊤, Bool, true, false, List, [], ◌∷◌, ◌++◌, take, Option, Some, None, IfSome}
use Rattle.std.specs.List.{list_any}
use Rattle.std.specs.Option.{option_map}
use Rattle.std.specs.Str.{bytes_eq}
use Rattle.std.specs.FinMap as files
use Rattle.plan_files.specs.declared.write.Write.{Write}
use Rattle.plan_files.specs.declared.write.Write.TheVariants.{Put, Removal}
use Rattle.plan_files.specs.Applied.{IsTorn}
use Rattle.plan_files.specs.Changes.{folder_after}
use Rattle.plan_files.specs.Folder.{Folder}
use Rattle.plan_files.specs.Others.{AreOutside}
use Rattle.giv_files.specs.declared.stage.Stage.{Stage}
use Rattle.stage_keep.specs.Entries.{keep_name}
use Rattle.stage_keep.specs.Honest.{IsHonest}
use Rattle.command_line.specs.declared.mode.Mode.{Mode}
use Rattle.command_line.specs.declared.mode.Mode.TheVariants as mode
use Rattle.stage_chain.specs.Hand.{hand_of, is_hand}
use Rattle.stage_chain.specs.Kept.{IsKeptHonest}
use Rattle.stage_chain.specs.StageParts.{StageParts}

-- the first of some writes may be made in part: its name has its old bytes, or a front part of the new ones;
-- of a removal, the file is there or not
abbrev pub IsFirstTorn : List Write → Folder → Folder → Type 0
IsFirstTorn [] old new = new ≡ old
IsFirstTorn (next ∷ rest) old new = IsTorn next (Some old) (Some new)

-- A folder is left where a front part of some writes was made, and the one behind it perhaps in part.
pub record IsStopped (writes : List Write) (old new : Folder) : Type 0 where
  pub made : List Write
  pub rest : List Write
  pub split : writes ≡ made ++ rest
  pub folder : IsFirstTorn rest (folder_after made old) new

-- a write removes what is kept of a stage
abbrev pub removes_kept : Stage → Write → Bool
removes_kept stage (Put name bytes) = false
removes_kept stage (Removal name) = bytes_eq name (keep_name stage)

-- some writes remove all that was kept
abbrev pub RemovesKept : Folder → List Write → Type 0
RemovesKept read made = (stage : Stage)
    → (files.get read (keep_name stage) ≡ None) ⊎ (list_any (removes_kept stage) made ≡ true)

module _ (S : StageParts) where
  -- Why what is kept can be trusted after such writes of a run: it was honest before, or, in a fresh run, all
  -- of it that was there is removed.
  abbrev pub IsSafeFrom : Mode → Folder → List Write → Type 0
  IsSafeFrom mode.Make read made = IsKeptHonest S read
  IsSafeFrom mode.Fresh read made = IsKeptHonest S read ⊎ RemovesKept read made

  -- Wherever the writes are stopped that a run added to the list of writes, the files that people write are
  -- as before, and what is kept is honest.
  pub record StopsSafely (by : Mode) (read : Folder) (before now : Option (List Write)) : Type 0 where
    pub added : List Write
    pub noted : now ≡ option_map (λ writes. writes ++ added) before
    pub hand : (left : Folder) → IsStopped added read left → hand_of left ≡ hand_of read
    pub keep : (left : Folder) → (stopped : IsStopped added read left)
        → IsSafeFrom by read stopped.made → IsKeptHonest S left

  -- ---- inner words

  -- what a write puts under the name of a keep file is honest, and so is each front part of it
  abbrev pub IsHarmless : Write → Type 0
  IsHarmless (Removal name) = ⊤
  IsHarmless (Put name bytes) = (stage : Stage) (kept : ℕ) → keep_name stage ≡ name
      → IsHonest S.run stage (take kept bytes)

  abbrev pub AreHarmless : List Write → Type 0
  AreHarmless [] = ⊤
  AreHarmless (write ∷ writes) = IsHarmless write × AreHarmless writes

  -- the writes that were added are harmless and name no file that people write, and what is kept stays honest
  pub record AddsHarmless (read : Folder) (left : Option Folder) (before now : Option (List Write)) : Type 0 where
    pub added : List Write
    pub noted : now ≡ option_map (λ writes. writes ++ added) before
    pub harmless : AreHarmless added
    pub apart : AreOutside is_hand added
    pub keep : IsKeptHonest S read → IfSome left (IsKeptHonest S)
