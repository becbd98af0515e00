-- Writes that change something, one after the other, and which files they name.
use Rattle.plan_num.proofs.Common.{◌≡◌, ℕ, Bool, true, not, ◌⊎◌, List, [], ◌∷◌, ◌++◌, map, length}
use Rattle.plan_num.proofs.Common.{Option, Some, None, IfSome, refl, ap, sym, subst, ◌∙◌, ⊎_elim}
use Rattle.plan_num.proofs.Common.{append-nil, append_assoc, arith, list_all}
use Rattle.plan_files.specs.declared.file_fault.FileFault.{FileFault}
use Rattle.plan_files.specs.declared.write.Write.{Write}
use Rattle.plan_files.specs.declared.write.Write.TheVariants.{Removal}
use Rattle.plan_files.proofs.Common.{AreApplied, AreCutShort, Folder, AreOutside, outside_both}
use Rattle.plan_files.proofs.Common.{outside_front}
use Rattle.giv_files.specs.declared.made.MadeFile.{MadeFile}
use Rattle.stage_chain.specs.Hand.{AreNoHandFiles, is_hand, keep_names}
use Rattle.stage_chain.specs.Runs.{AddsNoHandFile, SameHand, unmet, writes_for}
use Rattle.stage_chain.proofs.HandKept.{applied_hand, cut_hand, made_outside, removals_outside}
use Rattle.stage_chain.specs.StageParts.{StageParts}
use Rattle.stage_chain.specs.Laws.{AreStages}

-- ---- wishes, one after the other

-- one wish more
pub told_wish : (contents now : Option Folder) (all writes new left rest : List Write) (wish : Write)
    → now ≡ contents → left ≡ wish ∷ rest
    → IfSome now (λ folder. new ≡ writes ++ unmet folder (wish ∷ []))
    → IfSome contents (λ folder. writes ++ unmet folder left ≡ unmet folder all)
    → IfSome contents (λ folder. new ++ unmet folder rest ≡ unmet folder all)
told_wish None now all writes new left rest wish same is more so_far = tt
told_wish (Some folder) now all writes new left rest wish same is more so_far = grind (
  arith,
  append_assoc,
)

pub outside_wish : (all writes new left rest : List Write) (wish : Write) → left ≡ wish ∷ rest
    → (new ≡ writes) ⊎ (new ≡ writes ++ wish ∷ [])
    → ((test : List ℕ → Bool) → AreOutside test all → AreOutside test (writes ++ left))
    → (test : List ℕ → Bool) → AreOutside test all → AreOutside test (new ++ rest)
outside_wish all writes new left rest wish is more so_far = λ test out.
    let here : AreOutside test (writes ++ wish ∷ rest) =
    subst (λ left. AreOutside test (writes ++ left)) is (so_far test out) in
    ⊎_elim
    (λ same. subst (λ new. AreOutside test (new ++ rest)) (sym same) (passed test writes here))
    (λ pushed. subst (λ new. AreOutside test (new ++ rest)) (sym pushed)
    (subst (AreOutside test) (sym (append_assoc writes (wish ∷ []) rest)) here))
    more
  where
    passed : (test : List ℕ → Bool) (writes : List Write) → AreOutside test (writes ++ wish ∷ rest)
        → AreOutside test (writes ++ rest)
    passed test [] out = out.1
    passed test (write ∷ writes) out = (out.0, passed test writes out.1)

-- all wishes
pub outside_wishes : (all writes left : List Write) → left ≡ []
    → ((test : List ℕ → Bool) → AreOutside test all → AreOutside test (writes ++ left))
    → (test : List ℕ → Bool) → AreOutside test all → AreOutside test writes
outside_wishes all writes left none so_far = λ test out.
    subst (AreOutside test) (append-nil writes)
    (subst (λ left. AreOutside test (writes ++ left)) none (so_far test out))

pub nothing_left : (left : List Write) → length left ≡ 0 → left ≡ []
nothing_left [] none = refl
nothing_left (write ∷ left) none = absurd (omega (arith, none))

-- ---- writes name no hand file, all of them or some

pub written_outside : (list both writes more : List Write) → list ≡ both → both ≡ writes ++ more
    → AreOutside is_hand writes → AreOutside is_hand more → AreOutside is_hand list
written_outside list both writes more own is first second =
    subst (AreOutside is_hand) (sym (own ∙ is)) (outside_both is_hand writes more first second)

module _ (told new : Option Folder) (mid now : Option (List Write)) (writes : List Write)
    (out : AreOutside is_hand writes) where
  pub all_hand : (contents : Option Folder) → told ≡ contents → AreApplied writes told new mid now
      → SameHand contents new
  all_hand contents same all = subst (λ old. SameHand old new) same (applied_hand writes told new mid now out all)

  pub some_hand : (contents : Option Folder) (fault : FileFault) → told ≡ contents
      → AreCutShort fault writes told new mid now
      → SameHand contents new
  some_hand contents fault same cut =
      subst (λ old. SameHand old new) same (cut_hand fault writes told new mid now out cut)

  pub all_added : (before : Option (List Write)) → mid ≡ before → AreApplied writes told new mid now
      → AddsNoHandFile before now
  all_added before same all =
      subst (λ noted. AddsNoHandFile noted now) same (record { added = writes; noted = all.noted; apart = out })

  pub some_added : (before : Option (List Write)) (fault : FileFault) → mid ≡ before
      → AreCutShort fault writes told new mid now
      → AddsNoHandFile before now
  some_added before fault same cut = grind (arith, outside_front)

-- the removals of what is kept name none
keep_no_hand : list_all (λ name. not (is_hand name)) keep_names ≡ true
unfolding is_hand
keep_no_hand = refl

pub removals_told : (wishes : List Write) → wishes ≡ map Removal keep_names
    → AreOutside is_hand wishes
removals_told wishes is =
    subst (AreOutside is_hand) (sym is) (removals_outside keep_names keep_no_hand)

module _ (S : StageParts) (laws : AreStages S) where
  -- nor do the writes of made files
  pub wishes_told : (wishes : List Write) (made files : List MadeFile) → wishes ≡ writes_for S made
      → made ≡ files → AreNoHandFiles files → AreOutside is_hand wishes
  wishes_told wishes made files is same none =
      subst (AreOutside is_hand) (sym (is ∙ ap (writes_for S) same)) (made_outside S laws files none)
