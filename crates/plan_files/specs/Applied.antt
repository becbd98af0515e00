-- What is left by a call that writes, and by several in order, all of them or up to a fault.
use Rattle.std.specs.Prelude.{ℕ, ◌≡◌, ◌⊎◌, List, [], ◌∷◌, ◌++◌, take, Option, Result, Ok, Err}
use Rattle.std.specs.Option.{option_map}
use Rattle.plan_files.specs.declared.file_fault.FileFault.{FileFault}
use Rattle.plan_files.specs.declared.file_fault.FileFault.TheVariants.{Failed, NoMemory}
use Rattle.plan_files.specs.declared.write.Write.{Write}
use Rattle.plan_files.specs.declared.write.Write.TheVariants.{Put, Removal}
use Rattle.plan_files.specs.Folder.{Folder}
use Rattle.plan_files.specs.Changes.{after_write, folder_after}

-- what a write leaves that was not finished: all as before, or a front part of the bytes, or the
-- removal done
abbrev pub IsTorn : Write → Option Folder → Option Folder → Type 0
IsTorn (Put name bytes) old new =
    (new ≡ old) ⊎ ((kept : ℕ) × (new ≡ option_map (after_write (Put name (take kept bytes))) old))
IsTorn (Removal name) old new = (new ≡ old) ⊎ (new ≡ option_map (after_write (Removal name)) old)

-- what is left of a write that was not finished, by why it was not: where memory was refused all
-- is as before
abbrev pub LeftBy : FileFault → Write → Option Folder → Option Folder → Type 0
LeftBy Failed write old new = IsTorn write old new
LeftBy NoMemory write old new = new ≡ old

-- the folder after a call that writes, by its answer
abbrev pub Leaves :
    {T : Type 0} → Write → Option Folder → Option Folder → Result T FileFault → Type 0
Leaves write old new (Ok _) = new ≡ option_map (after_write write) old
Leaves write old new (Err fault) = LeftBy fault write old new

-- the list of writes after such a call, which has the write where it answered Ok
abbrev pub Notes :
    {T : Type 0} → Write → Option (List Write) → Option (List Write) → Result T FileFault → Type 0
Notes write before now (Ok _) = now ≡ option_map (λ made. made ++ write ∷ []) before
Notes write before now (Err _) = now ≡ before

-- all writes were made
pub record AreApplied (writes : List Write) (old new : Option Folder)
    (before now : Option (List Write)) : Type 0 where
  pub folder : new ≡ option_map (folder_after writes) old
  pub noted : now ≡ option_map (λ made. made ++ writes) before

-- some first writes were made, and the next one was not finished, for a fault
pub record AreCutShort (fault : FileFault) (writes : List Write) (old new : Option Folder)
    (before now : Option (List Write)) : Type 0 where
  pub made : List Write
  pub next : Write
  pub rest : List Write
  pub split : writes ≡ made ++ next ∷ rest
  pub noted : now ≡ option_map (λ noted_before. noted_before ++ made) before
  pub folder : LeftBy fault next (option_map (folder_after made) old) new
