-- Writes that change something leave what all of them leave, and then nothing is left to change.
use Rattle.plan_num.proofs.Common.{arith, ◌≡◌, ℕ, Bool, true, false, cond, not, List, [], ◌∷◌, ◌++◌}
use Rattle.plan_num.proofs.Common.{map, filter, Option, Some, None, refl, ap, ⊤, list_all, bytes_eq}
use Rattle.plan_num.proofs.Common.{false≢true, and_parts, not-true, or_parts}
use Rattle.plan_num.proofs.Common.{bytes_eq-Decides}
use Rattle.std.specs.FinMap as files
use Rattle.plan_files.specs.declared.write.Write.{Write}
use Rattle.plan_files.proofs.Common.{after_write, folder_after, left_by, write_name, Folder}
use Rattle.plan_files.proofs.Common.{AreOutside, same_folder, get_written}
use Rattle.stage_chain.specs.Hand.{is_among}
use Rattle.stage_chain.specs.Runs.{IsOnce, is_met, same_bytes, unmet}
use Rattle.stage_chain.proofs.Differing.{Differ, not_among, same_way}
use Rattle.stage_chain.specs.StageLists.{differing, differs_from}

-- the names of some writes
abbrev pub names_in : List Write → List (List ℕ)
names_in writes = map write_name writes

pub same_is : (there left : Option (List ℕ)) → same_bytes there left ≡ true → there ≡ left
same_is None None e = refl
same_is None (Some bytes) e = absurd (false≢true e)
same_is (Some there) None e = absurd (false≢true e)
same_is (Some there) (Some bytes) e = ap Some ((bytes_eq-Decides there bytes).0 e)

pub same_own : (there : Option (List ℕ)) → same_bytes there there ≡ true
same_own None = refl
same_own (Some there) = (bytes_eq-Decides there there).1 refl

-- a write that is met changes nothing
met_stays : (write : Write) (folder : Folder) → is_met folder write ≡ true
    → after_write write folder ≡ folder
met_stays write folder met = grind (arith, same_folder, get_written, same_is, bytes_eq-Decides)

-- two folders have the same under each of some names
abbrev pub Alike : Folder → Folder → List (List ℕ) → Type 0
Alike folder other [] = ⊤
Alike folder other (name ∷ names) =
    (files.get folder name ≡ files.get other name) × Alike folder other names

alike_own : (folder : Folder) (names : List (List ℕ)) → Alike folder folder names
alike_own folder [] = tt
alike_own folder (name ∷ names) = (refl, alike_own folder names)

-- and still after a write under another name
pub alike_after : (write : Write) (folder other : Folder) (names : List (List ℕ))
    → differs_from names (write_name write) ≡ true → Alike folder other names
    → Alike (after_write write folder) other names
alike_after write folder other [] out h = tt
alike_after write folder other (name ∷ names) out h =
    let parts = and_parts _ _ out in grind (
      arith,
      same_way,
      not-true,
      get_written,
      alike_after
          write folder other names parts.1 h.1,
    )

unmet_from : (base : Folder) (writes : List Write) (folder : Folder)
    → differing (names_in writes) ≡ true → Alike folder base (names_in writes)
    → folder_after (unmet base writes) folder ≡ folder_after writes folder
unmet_from base [] folder h k = refl
unmet_from base (write ∷ writes) folder h k =
    let parts = and_parts _ _ h in
    by (is_met base write) refl (unmet_from base writes folder parts.1 k.1)
    (unmet_from base writes (after_write write folder) parts.1
    (alike_after write folder base (names_in writes) parts.0 k.1))
  where
    by : (met : Bool) → is_met base write ≡ met
        → folder_after (unmet base writes) folder ≡ folder_after writes folder
        → folder_after (unmet base writes) (after_write write folder) ≡ folder_after writes (after_write write folder)
        → folder_after (cond (not met) (write ∷ unmet base writes) (unmet base writes)) folder
        ≡ folder_after writes (after_write write folder)
    by true is here there = grind (arith, met_stays)
    by false is here there = there

-- Writes with different names leave what those of them leave that change something.
pub unmet_leaves : (writes : List Write) (folder : Folder) → differing (names_in writes) ≡ true
    → folder_after (unmet folder writes) folder ≡ folder_after writes folder
unmet_leaves writes folder h = unmet_from folder writes folder h (alike_own folder (names_in writes))

-- under other names all is as before
pub get_behind : (writes : List Write) (folder : Folder) (name : List ℕ)
    → is_among name (names_in writes) ≡ false
    → files.get (folder_after writes folder) name ≡ files.get folder name
get_behind [] folder name out = refl
get_behind (write ∷ writes) folder name out =
    let parts = or_parts _ _ out in grind (
      arith,
      get_written,
      get_behind writes (after_write write
          folder) name parts.1,
    )

-- a folder has what each of some writes leaves
abbrev pub AreMet : Folder → List Write → Type 0
AreMet folder [] = ⊤
AreMet folder (write ∷ writes) =
    (files.get folder (write_name write) ≡ left_by write) × AreMet folder writes

pub met_after : (writes : List Write) (folder : Folder) → differing (names_in writes) ≡ true
    → AreMet (folder_after writes folder) writes
met_after [] folder h = tt
met_after (write ∷ writes) folder h =
    let parts = and_parts _ _ h in grind (
      arith,
      get_behind,
      not_among,
      get_written,
      bytes_eq-Decides,
      met_after writes (after_write write folder) parts.1,
    )

-- also behind writes under other names
pub met_behind : (writes more : List Write) (folder : Folder)
    → Differ (names_in writes) (names_in more) → AreMet folder writes
    → AreMet (folder_after more folder) writes
met_behind [] more folder h k = tt
met_behind (write ∷ writes) more folder h k =
    let parts = and_parts _ _ h in grind (
      arith,
      get_behind,
      not_among,
      met_behind writes more
          folder parts.1 k.1,
    )

-- where all are met, none changes anything
pub none_unmet : (writes : List Write) (folder : Folder) → AreMet folder writes
    → unmet folder writes ≡ []
none_unmet [] folder h = refl
none_unmet (write ∷ writes) folder h = grind (arith, same_own, none_unmet writes folder h.1)

-- ---- some of the writes

module _ (p : Write → Bool) where
  pub outside_some : (test : List ℕ → Bool) (writes : List Write) → AreOutside test writes
      → AreOutside test (filter p writes)
  outside_some test [] h = tt
  outside_some test (write ∷ writes) h = grind (arith, outside_some test writes h.1)

  all_some : (q : List ℕ → Bool) (writes more : List Write)
      → list_all q (names_in (writes ++ more)) ≡ true
      → list_all q (names_in (filter p writes ++ more)) ≡ true
  all_some q [] more h = h
  all_some q (write ∷ writes) more h =
      let parts = and_parts _ _ h in grind (arith, all_some q writes more parts.1)

  -- no two of some have one name where no two of all have
  pub once_some : (writes more : List Write) → differing (names_in (writes ++ more)) ≡ true
      → IsOnce (filter p writes ++ more)
  once_some [] more h = all_once more h
    where
      all_once : (more : List Write) → differing (names_in more) ≡ true → IsOnce more
      all_once [] h = tt
      all_once (write ∷ more) h =
          let parts = and_parts _ _ h in grind (arith, not_among, all_once more parts.1)
  once_some (write ∷ writes) more h =
      let parts = and_parts _ _ h in
      by (p write) (all_some (λ other. not (bytes_eq (write_name write) other)) writes more parts.0)
      (once_some writes more parts.1)
    where
      by : (b : Bool) → differs_from (names_in (filter p writes ++ more)) (write_name write) ≡ true
          → IsOnce (filter p writes ++ more)
          → IsOnce (cond b (write ∷ filter p writes) (filter p writes) ++ more)
      by true out rest = grind (arith, not_among)
      by false out rest = rest
