-- Writes that are made one after the other, up to a fault.
use Rattle.plan_num.proofs.Common.{arith, ◌≡◌, ℕ, suc, ◌+◌, ◌<◌, ◌≤◌, List, [], ◌∷◌, ◌++◌, length}
use Rattle.plan_num.proofs.Common.{take, drop, get_or, Option, Some, None, refl, ap, sym, subst}
use Rattle.plan_num.proofs.Common.{◌∙◌, append-nil, append_assoc, option_map, take_more, take_all}
use Rattle.std.proofs.Math.Seq.{split_at}
use Rattle.plan_files.specs.declared.file_fault.FileFault.{FileFault}
use Rattle.plan_files.specs.declared.write.Write.{Write}
use Rattle.plan_files.specs.Folder.{Folder}
use Rattle.plan_files.specs.Changes.{after_write, folder_after}
use Rattle.plan_files.specs.Applied.{AreApplied, AreCutShort, LeftBy}
use Rattle.plan_files.proofs.Writes.{folder_after_push}

same_folder : (old : Option Folder) → old ≡ option_map (folder_after []) old
same_folder None = refl
same_folder (Some folder) = refl

same_writes : (before : Option (List Write)) → before ≡ option_map (λ made. made ++ []) before
same_writes None = refl
same_writes (Some made) = ap Some (sym (append-nil made))

-- before the first write
pub none_applied : (old : Option Folder) (before : Option (List Write))
    → AreApplied [] old old before before
none_applied old before = record { folder = same_folder old; noted = same_writes before }

next_folder : (writes : List Write) (write : Write) (old : Option Folder)
    → option_map (after_write write) (option_map (folder_after writes) old)
    ≡ option_map (folder_after (writes ++ write ∷ [])) old
next_folder writes write None = refl
next_folder writes write (Some folder) = ap Some (sym (folder_after_push writes write folder))

next_writes : (writes : List Write) (write : Write) (before : Option (List Write))
    → option_map (λ made. made ++ write ∷ []) (option_map (λ made. made ++ writes) before)
    ≡ option_map (λ made. made ++ (writes ++ write ∷ [])) before
next_writes writes write None = refl
next_writes writes write (Some made) = ap Some (append_assoc made writes (write ∷ []))

-- one write more
pub more_applied : (writes : List Write) (i : ℕ) (write : Write) (old mid new : Option Folder)
    (before noted now : Option (List Write))
    → i < length writes → write ≡ get_or writes i write
    → AreApplied (take i writes) old mid before noted
    → new ≡ option_map (after_write write) mid → now ≡ option_map (λ made. made ++ write ∷ []) noted
    → AreApplied (take (i + 1) writes) old new before now
more_applied writes i write old mid new before noted now inside is h left told =
    grind (arith, take_more, next_folder, next_writes)

-- a write that was not finished
pub cut_short : (fault : FileFault) (writes : List Write) (i : ℕ) (write : Write)
    (old mid new : Option Folder) (before noted now : Option (List Write))
    → i < length writes → write ≡ get_or writes i write
    → AreApplied (take i writes) old mid before noted
    → LeftBy fault write mid new → now ≡ noted
    → AreCutShort fault writes old new before now
cut_short fault writes i write old mid new before noted now inside is h torn told = record {
  made = take i writes;
  next = write;
  rest = drop (suc i) writes;
  split = grind (arith, split_at);
  noted = told ∙ h.noted;
  folder = subst (λ folder. LeftBy fault write folder new) h.folder torn;
}

-- behind the last write
pub all_applied : (writes : List Write) (i : ℕ) (old new : Option Folder)
    (before now : Option (List Write)) → length writes ≤ i
    → AreApplied (take i writes) old new before now → AreApplied writes old new before now
all_applied writes i old new before now past h = rw (take_all i writes past) at h
