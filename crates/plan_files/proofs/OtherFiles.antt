-- A call on a file leaves every other one as it was.
use Rattle.plan_num.proofs.Common.{arith, ◌≡◌, ◌≢◌, ℕ, Bool, true, false, List, [], ◌∷◌, ◌++◌}
use Rattle.plan_num.proofs.Common.{Option, Some, None, refl, ap, sym, subst, ◌∙◌, cond, take}
use Rattle.plan_num.proofs.Common.{nat_cmp, ⊎_elim, Result, Ok, Err, unwrap_or, bytes_eq, eq_by_cmp}
use Rattle.plan_num.proofs.Common.{option_map, slice_cmp, nat_list_cmp_total, is_eq-slice_cmp}
use Rattle.plan_num.proofs.Common.{bytes_eq-Decides, false≢true}
use Rattle.std.specs.FinMap as map
use Rattle.std.specs.declared.cmp.Ordering.TheVariants.{Equal}
use Rattle.plan_files.specs.declared.file_fault.FileFault.{FileFault}
use Rattle.plan_files.specs.declared.file_fault.FileFault.TheVariants.{Failed, NoMemory}
use Rattle.plan_files.specs.declared.write.Write.{Write}
use Rattle.plan_files.specs.declared.write.Write.TheVariants.{Put, Removal}
use Rattle.plan_files.specs.Applied.{AreApplied, AreCutShort, IsTorn, LeftBy, Leaves}
use Rattle.plan_files.specs.Changes.{after_write, folder_after, folder_of, write_name}
use Rattle.plan_files.specs.Folder.{Folder, has_failed}
use Rattle.plan_files.specs.Others.{AreOutside}
use Rattle.plan_files.proofs.Writes.{folder_after_push, get_written}

-- a name is not another one
different : (b : Bool) (other name : List ℕ) → (b ≡ true → other ≡ name) → other ≢ name → b ≡ false
different true other name h ne = absurd (ne (h refl))
different false other name h ne = refl

not_equal : (other name : List ℕ) → other ≢ name → eq_by_cmp (slice_cmp nat_cmp) other name ≡ false
not_equal other name ne = grind (arith, is_eq-slice_cmp, different, bytes_eq-Decides)

-- every file but one is as before
abbrev SameBut : List ℕ → Folder → Folder → Type 0
SameBut name old new = (other : List ℕ) → other ≢ name → map.get new other ≡ map.get old other

pub insert_keeps : (folder : Folder) (name bytes : List ℕ)
    → SameBut name folder (map.insert folder name bytes)
insert_keeps folder name bytes other ne =
    map.get-insert nat_list_cmp_total folder name bytes other
    ∙ ap (λ b. cond b (Some bytes) (map.get folder other)) (not_equal other name ne)

pub remove_keeps : (folder : Folder) (name : List ℕ) → SameBut name folder (map.remove folder name)
remove_keeps folder name other ne =
    map.get-remove nat_list_cmp_total folder name other
    ∙ ap (λ b. cond b None (map.get folder other)) (not_equal other name ne)

-- ---- files of a kind that no write names

-- the part of a folder whose names pass a test
abbrev pub part_of : (List ℕ → Bool) → Folder → Folder
part_of test folder = map.retain_keys folder test

alike : (test : List ℕ → Bool) (name other : List ℕ) → slice_cmp nat_cmp name other ≡ Equal
    → test other ≡ test name
alike test name other tied =
    ap test (sym (map.slice_cmp-IsAntisymmetric map.nat_cmp-IsAntisymmetric name other tied))

pub get_part : (test : List ℕ → Bool) (folder : Folder) (name : List ℕ)
    → map.get (part_of test folder) name ≡ cond (test name) (map.get folder name) None
get_part test folder name =
    map.get-retain_keys folder test name (λ other tied. alike test name other tied)

-- folders with the same bytes under each name are one
pub same_folder : (folder other : Folder)
    → ((name : List ℕ) → map.get folder name ≡ map.get other name) → folder ≡ other
same_folder folder other same =
    map.same_map nat_list_cmp_total
    (map.slice_cmp-IsAntisymmetric map.nat_cmp-IsAntisymmetric) folder other same

absent_stays : (folder : Folder) (name other : List ℕ) (b : Bool) → (b ≡ true → other ≡ name)
    → map.get folder name ≡ None → cond b None (map.get folder other) ≡ map.get folder other
absent_stays folder name other true same absent = sym (ap (map.get folder) (same refl) ∙ absent)
absent_stays folder name other false same absent = refl

-- a folder without a name stays as it is where the name is removed
absent_removed : (folder : Folder) (name : List ℕ) → map.get folder name ≡ None
    → map.remove folder name ≡ folder
absent_removed folder name absent =
    same_folder (map.remove folder name) folder (λ other. get_written (Removal name) folder other
    ∙ absent_stays folder name other (bytes_eq other name) (bytes_eq-Decides other name).0 absent)

pub remove_absent : (writes : List Write) (name : List ℕ) → map.get (folder_of writes) name ≡ None
    → folder_of (writes ++ Removal name ∷ []) ≡ folder_of writes
remove_absent writes name absent = grind (arith, folder_after_push, absent_removed)

-- so it does after a call that removes the name and does not fail
pub absent_left : (result : Result Unit FileFault) (folder new : Folder) (name : List ℕ)
    → has_failed result ≡ false → Leaves (Removal name) (Some folder) (Some new) result
    → map.get folder name ≡ None → new ≡ folder
absent_left (Ok _) folder new name steady left absent =
    ap (λ told. unwrap_or told folder) left ∙ absent_removed folder name absent
absent_left (Err Failed) folder new name steady left absent = absurd (false≢true (sym steady))
absent_left (Err NoMemory) folder new name steady left absent =
    ap (λ told. unwrap_or told folder) left

part_kept : (test : List ℕ → Bool) (name : List ℕ) (old new : Folder) → test name ≡ false
    → SameBut name old new → (b : Bool) (other : List ℕ) → test other ≡ b
    → cond b (map.get new other) None ≡ cond b (map.get old other) None
part_kept test name old new out same true other is =
    same other (λ e. false≢true (sym out ∙ ap test (sym e) ∙ is))
part_kept test name old new out same false other is = refl

-- a part is as before where every file but one that is not in it is
pub part_stays : (test : List ℕ → Bool) (name : List ℕ) (old new : Folder) → test name ≡ false
    → SameBut name old new → part_of test new ≡ part_of test old
part_stays test name old new out same = grind (arith, same_folder, get_part, part_kept)

pub part_after_write : (test : List ℕ → Bool) (write : Write) (folder : Folder)
    → test (write_name write) ≡ false
    → part_of test (after_write write folder) ≡ part_of test folder
part_after_write test (Put name bytes) folder out =
    part_stays test name folder (map.insert folder name bytes) out (insert_keeps folder name bytes)
part_after_write test (Removal name) folder out =
    part_stays test name folder (map.remove folder name) out (remove_keeps folder name)

pub outside_both : (test : List ℕ → Bool) (writes more : List Write) → AreOutside test writes
    → AreOutside test more → AreOutside test (writes ++ more)
outside_both test [] more h k = k
outside_both test (write ∷ writes) more h k = (h.0, outside_both test writes more h.1 k)

pub outside_front : (test : List ℕ → Bool) (writes more : List Write)
    → AreOutside test (writes ++ more) → AreOutside test writes
outside_front test [] more h = tt
outside_front test (write ∷ writes) more h = (h.0, outside_front test writes more h.1)

outside_rest : (test : List ℕ → Bool) (writes more : List Write) → AreOutside test (writes ++ more)
    → AreOutside test more
outside_rest test [] more h = h
outside_rest test (write ∷ writes) more h = outside_rest test writes more h.1

-- such writes leave the part as it was
pub part_after : (test : List ℕ → Bool) (writes : List Write) (folder : Folder)
    → AreOutside test writes → part_of test (folder_after writes folder) ≡ part_of test folder
part_after test [] folder out = refl
part_after test (write ∷ writes) folder out =
    grind (arith, part_after_write, part_after test writes (after_write write folder) out.1)

told_part : (test : List ℕ → Bool) (writes : List Write) (old : Option Folder)
    → AreOutside test writes
    → option_map (part_of test) (option_map (folder_after writes) old)
    ≡ option_map (part_of test) old
told_part test writes None out = refl
told_part test writes (Some folder) out = ap Some (part_after test writes folder out)

one_part : (test : List ℕ → Bool) (write : Write) (old : Option Folder)
    → test (write_name write) ≡ false
    → option_map (part_of test) (option_map (after_write write) old) ≡ option_map (part_of test) old
one_part test write None out = refl
one_part test write (Some folder) out = ap Some (part_after_write test write folder out)

torn_part : (test : List ℕ → Bool) (write : Write) (old new : Option Folder)
    → test (write_name write) ≡ false → IsTorn write old new
    → option_map (part_of test) new ≡ option_map (part_of test) old
torn_part test (Put name bytes) old new out h =
    ⊎_elim (λ same. ap (option_map (part_of test)) same)
    (λ part. ap (option_map (part_of test)) part.1
    ∙ one_part test (Put name (take part.0 bytes)) old out) h
torn_part test (Removal name) old new out h =
    ⊎_elim (λ same. ap (option_map (part_of test)) same)
    (λ gone. ap (option_map (part_of test)) gone ∙ one_part test (Removal name) old out) h

-- whether all of them were made
pub applied_part : (test : List ℕ → Bool) (writes : List Write) (old new : Option Folder)
    (before now : Option (List Write)) → AreOutside test writes
    → AreApplied writes old new before now
    → option_map (part_of test) new ≡ option_map (part_of test) old
applied_part test writes old new before now out h =
    ap (option_map (part_of test)) h.folder ∙ told_part test writes old out

left_part : (test : List ℕ → Bool) (fault : FileFault) (write : Write) (old new : Option Folder)
    → test (write_name write) ≡ false → LeftBy fault write old new
    → option_map (part_of test) new ≡ option_map (part_of test) old
left_part test Failed write old new out h = torn_part test write old new out h
left_part test NoMemory write old new out h = ap (option_map (part_of test)) h

-- or not
pub cut_part : (test : List ℕ → Bool) (fault : FileFault) (writes : List Write)
    (old new : Option Folder) (before now : Option (List Write)) → AreOutside test writes
    → AreCutShort fault writes old new before now
    → option_map (part_of test) new ≡ option_map (part_of test) old
cut_part test fault writes old new before now out h =
    let split : AreOutside test (h.made ++ h.next ∷ h.rest) = subst (AreOutside test) h.split out in
    left_part test fault h.next (option_map (folder_after h.made) old) new
    (outside_rest test h.made (h.next ∷ h.rest) split).0 h.folder
    ∙ told_part test h.made old (outside_front test h.made (h.next ∷ h.rest) split)
