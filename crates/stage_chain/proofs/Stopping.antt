-- Wherever the writes of a run are stopped, what is kept is honest.
use Rattle.plan_num.proofs.Common.{◌≡◌, ℕ, Bool, true, false, cond, ◌||◌, List, [], ◌∷◌, ◌++◌}
use Rattle.plan_num.proofs.Common.{arith, take, length, Option, Some, None, IfSome, refl, ap, sym}
use Rattle.plan_num.proofs.Common.{subst, ◌∙◌, ◌⊎◌, inl, inr, ⊎_elim, list_any, bytes_eq}
use Rattle.plan_num.proofs.Common.{take-length, false≢true, or_cases, bytes_eq-Decides}
use Rattle.std.specs.FinMap as files
use Rattle.plan_files.specs.declared.write.Write.{Write}
use Rattle.plan_files.specs.declared.write.Write.TheVariants.{Put, Removal}
use Rattle.plan_files.proofs.Common.{IsTorn, after_write, folder_after, left_by, write_name, Folder}
use Rattle.plan_files.proofs.Common.{get_written}
use Rattle.giv_files.specs.declared.stage.Stage.{Stage}
use Rattle.stage_keep.specs.Entries.{keep_name}
use Rattle.stage_keep.specs.Honest.{IsHonest}
use Rattle.stage_chain.specs.Kept.{IsKeptHonest}
use Rattle.stage_chain.specs.Stopped.{AreHarmless, IsFirstTorn, IsHarmless, IsStopped, RemovesKept, removes_kept}
use Rattle.stage_chain.specs.StageParts.{StageParts}
use Rattle.stage_chain.specs.Laws.{AreStages}

module _ (S : StageParts) (laws : AreStages S) where
  -- ---- what is kept of one stage

  abbrev pub IsHonestAt : Stage → Folder → Type 0
  IsHonestAt at folder = (bytes : List ℕ) → files.get folder (keep_name at) ≡ Some bytes → IsHonest S.run at bytes

  -- what a write leaves of what is kept, or of a front part of what it puts
  left_honest : (at : Stage) (name : List ℕ) (here : Bool) (found new : Option (List ℕ))
      → bytes_eq (keep_name at) name ≡ here
      → (keep_name at ≡ name → (bytes : List ℕ) → new ≡ Some bytes → IsHonest S.run at bytes)
      → ((bytes : List ℕ) → found ≡ Some bytes → IsHonest S.run at bytes)
      → (bytes : List ℕ) → cond here new found ≡ Some bytes → IsHonest S.run at bytes
  left_honest at name true found new is put old = λ bytes there.
      put ((bytes_eq-Decides (keep_name at) name).0 is) bytes there
  left_honest at name false found new is put old = old

  after_honest : (at : Stage) (write : Write) (base : Folder)
      → (keep_name at ≡ write_name write → (bytes : List ℕ) → left_by write ≡ Some bytes → IsHonest S.run at bytes)
      → IsHonestAt at base → IsHonestAt at (after_write write base)
  after_honest at write base put honest = λ bytes there.
      left_honest at (write_name write) (bytes_eq (keep_name at) (write_name write)) (files.get base (keep_name at))
      (left_by write) refl put honest bytes
      (sym (get_written write base (keep_name at)) ∙ there)

some_same : (xs ys : List ℕ) → Some xs ≡ Some ys → xs ≡ ys
some_same xs ys same = cc

none_some : (ys : List ℕ) → None ≡ Some ys → ⊥
none_some ys same = cc

module _ (S : StageParts) (laws : AreStages S) where
  front_honest : (at : Stage) (name bytes : List ℕ) (kept : ℕ) (base : Folder)
      → IsHarmless S (Put name bytes) → IsHonestAt S laws at base
      → IsHonestAt S laws at (after_write (Put name (take kept bytes)) base)
  front_honest at name bytes kept base harmless honest =
      after_honest S laws at (Put name (take kept bytes)) base
      (λ same front is. subst (IsHonest S.run at) (some_same (take kept bytes) front is) (harmless at kept same)) honest

  whole_honest : (at : Stage) (write : Write) (base : Folder) → IsHarmless S write → IsHonestAt S laws at base
      → IsHonestAt S laws at (after_write write base)
  whole_honest at (Put name bytes) base harmless honest =
      subst (λ text. IsHonestAt S laws at (after_write (Put name text) base)) (take-length bytes)
      (front_honest at name bytes (length bytes) base harmless honest)
  whole_honest at (Removal name) base harmless honest =
      after_honest S laws at (Removal name) base (λ same bytes is. absurd (none_some bytes is)) honest

  pub torn_honest : (at : Stage) (write : Write) (base : Folder) (left : Option Folder)
      → IsHarmless S write → IsTorn write (Some base) left → IsHonestAt S laws at base
      → IfSome left (IsHonestAt S laws at)
  torn_honest at (Put name bytes) base left harmless torn honest =
      grind (arith, ⊎_elim, front_honest)
  torn_honest at (Removal name) base left harmless torn honest =
      ⊎_elim (λ same. subst (λ left. IfSome left (IsHonestAt S laws at)) (sym same) honest)
      (λ gone. subst (λ left. IfSome left (IsHonestAt S laws at)) (sym gone)
      (whole_honest at (Removal name) base tt honest))
      torn

  -- ---- after some writes

  -- what is kept of a stage is honest, or some writes remove it
  abbrev pub IsTrusted : Stage → Folder → List Write → Type 0
  IsTrusted at base made = IsHonestAt S laws at base ⊎ (list_any (removes_kept at) made ≡ true)

  removed_honest : (at : Stage) (write : Write) (base : Folder) → removes_kept at write ≡ true
      → IsHonestAt S laws at (after_write write base)
  removed_honest at (Put name bytes) base is = absurd (false≢true is)
  removed_honest at (Removal name) base is = λ bytes there.
      absurd (none_some bytes
      (sym (get_written (Removal name) base (keep_name at)
      ∙ ap (λ here. cond here None (files.get base (keep_name at))) own) ∙ there))
    where
      own : bytes_eq (keep_name at) name ≡ true
      own = (bytes_eq-Decides (keep_name at) name).1 (sym ((bytes_eq-Decides name (keep_name at)).0 is))

module _ (S : StageParts) (laws : AreStages S) where
  pub made_honest : (at : Stage) (made : List Write) (base : Folder) → AreHarmless S made
      → IsTrusted S laws at base made → IsHonestAt S laws at (folder_after made base)
  made_honest at [] base harmless trusted =
      ⊎_elim (λ honest. honest) (λ none. absurd (false≢true none)) trusted
  made_honest at (write ∷ made) base harmless trusted = grind (
    arith,
    ⊎_elim,
    whole_honest,
    removed_honest,
    or_cases,
    made_honest at made (after_write write base) harmless.1 (⊎_elim (λ
        honest. inl (whole_honest S laws at write base harmless.0 honest)) (λ some. ⊎_elim (λ own. inl
        (removed_honest S laws at write base own)) (λ later. inr later) (or_cases (removes_kept at
        write) (list_any (removes_kept at) made) some)) trusted),
  )

  pub harmless_both : (writes more : List Write) → AreHarmless S writes → AreHarmless S more
      → AreHarmless S (writes ++ more)
  harmless_both [] more h k = k
  harmless_both (write ∷ writes) more h k = (h.0, harmless_both writes more h.1 k)

  pub harmless_parts : (writes more : List Write) → AreHarmless S (writes ++ more)
      → AreHarmless S writes × AreHarmless S more
  harmless_parts [] more h = (tt, h)
  harmless_parts (write ∷ writes) more h =
      let parts = harmless_parts writes more h.1 in ((h.0, parts.0), parts.1)

  first_honest : (at : Stage) (rest : List Write) (base left : Folder) → AreHarmless S rest
      → IsFirstTorn rest base left → IsHonestAt S laws at base → IsHonestAt S laws at left
  first_honest at [] base left harmless same honest = subst (IsHonestAt S laws at) (sym same) honest
  first_honest at (next ∷ rest) base left harmless torn honest =
      torn_honest S laws at next base (Some left) harmless.0 torn honest

  module _ (writes : List Write) (read left : Folder) (harmless : AreHarmless S writes) where
    stopped_at : (stopped : IsStopped writes read left) (at : Stage) → IsTrusted S laws at read stopped.made
        → IsHonestAt S laws at left
    stopped_at stopped at trusted = grind (arith, harmless_parts, first_honest, made_honest)

    pub stopped_honest : (stopped : IsStopped writes read left) → IsKeptHonest S read → IsKeptHonest S left
    stopped_honest stopped honest = λ at. stopped_at stopped at (inl (honest at))

    pub stopped_removed : (stopped : IsStopped writes read left) → RemovesKept read stopped.made
        → IsKeptHonest S left
    stopped_removed stopped removed = λ at. stopped_at stopped at (⊎_elim
        (λ none. inl (λ bytes there. absurd (none_some bytes (sym none ∙ there))))
        (λ some. inr some)
        (removed at))
