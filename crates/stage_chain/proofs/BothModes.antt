-- A run over what is kept, and a fresh one, which first removes it.
use Rattle.plan_num.proofs.Common.{arith, ◌≡◌, ℕ, Bool, true, false, cond, not, List, [], ◌∷◌, ◌++◌}
use Rattle.plan_num.proofs.Common.{Option, Some, None, refl, ap, sym, subst, ◌∙◌, inl, ⊎_elim}
use Rattle.plan_num.proofs.Common.{append-nil, option_map}
use Rattle.std.specs.FinMap as files
use Rattle.plan_files.specs.declared.write.Write.{Write}
use Rattle.plan_files.proofs.Common.{AreApplied, Folder, get_part, same_folder}
use Rattle.giv_files.specs.declared.stage.Stage.{Stage}
use Rattle.stage_keep.specs.Entries.{keep_name}
use Rattle.stage_chain.specs.declared.outcome.ChainFault.{ChainFault}
use Rattle.command_line.specs.declared.mode.Mode.{Mode}
use Rattle.command_line.specs.declared.mode.Mode.TheVariants as mode
use Rattle.stage_chain.specs.Hand.{hand_of, is_among, is_hand, keep_names}
use Rattle.stage_chain.specs.Kept.{IsKeptHonest}
use Rattle.stage_chain.specs.Runs.{AreNotAll, IsFromScratch, Trusts}
use Rattle.stage_chain.specs.Runs.{removed, run_over, started, without_keep}
use Rattle.stage_chain.proofs.Keeping.{from_scratch, nothing_honest}
use Rattle.stage_chain.proofs.Left.{fresh_left}
use Rattle.stage_chain.proofs.WrittenNames.{kept_no_hand, own_keep}
use Rattle.stage_chain.specs.StageParts.{StageParts}
use Rattle.stage_chain.specs.Laws.{AreStages}

-- ---- a folder without what is kept

fresh_gets : (folder : Folder) (name : List ℕ)
    → files.get (without_keep folder) name ≡ cond (not (is_among name keep_names)) (files.get folder name) None
fresh_gets folder name = get_part (λ name. not (is_among name keep_names)) folder name

fresh_hand : (folder : Folder) → hand_of (without_keep folder) ≡ hand_of folder
unfolding hand_of
fresh_hand folder =
    same_folder (files.retain_keys (without_keep folder) is_hand) (files.retain_keys folder is_hand) (λ name.
    get_part is_hand (without_keep folder) name
    ∙ ap (λ found. cond (is_hand name) found None) (fresh_gets folder name)
    ∙ by name (is_among name keep_names) refl
    ∙ sym (get_part is_hand folder name))
  where
    by : (name : List ℕ) (kept : Bool) → is_among name keep_names ≡ kept
        → cond (is_hand name) (cond (not kept) (files.get folder name) None) None
        ≡ cond (is_hand name) (files.get folder name) None
    by name true is = grind (arith, kept_no_hand)
    by name false is = refl

pub fresh_none : (folder : Folder) (at : Stage) → files.get (without_keep folder) (keep_name at) ≡ None
fresh_none folder at = grind (arith, fresh_gets, own_keep)

module _ (S : StageParts) (laws : AreStages S) where
  -- it keeps nothing
  fresh_honest : (folder : Folder) → IsKeptHonest S (without_keep folder)
  fresh_honest folder = nothing_honest S laws (without_keep folder) (fresh_none folder)

  -- what a run goes over is honest where it trusts what is kept, and where it is fresh
  pub honest_start : (by : Mode) (folder : Folder) → Trusts S by folder → IsKeptHonest S (started by folder)
  honest_start mode.Make folder trusts = trusts
  honest_start mode.Fresh folder trusts = fresh_honest folder

pub started_hand : (by : Mode) (folder : Folder) → hand_of (started by folder) ≡ hand_of folder
started_hand mode.Make folder = refl
started_hand mode.Fresh folder = fresh_hand folder

module _ (S : StageParts) (laws : AreStages S) where
  pub both_scratch : (by : Mode) (folder : Folder) → Trusts S by folder
      → IsFromScratch S (run_over S (started by folder)) (hand_of folder)
  both_scratch by folder trusts = subst (IsFromScratch S (run_over S (started by folder))) (started_hand by folder)
      (from_scratch S laws (started by folder) (honest_start S laws by folder trusts))

-- ---- the removals, and then the run

pub started_is : (by : Mode) (folder : Folder) (mid : Option Folder) (before noted : Option (List Write))
    → AreApplied (removed by folder) (Some folder) mid before noted
    → mid ≡ Some (started by folder)
started_is mode.Make folder mid before noted h = h.folder
started_is mode.Fresh folder mid before noted h = h.folder ∙ ap Some (fresh_left folder)

-- no write is not all of none
pub none_cut : (writes : List Write) (fault : ChainFault) (old new : Option Folder)
    (before now : Option (List Write)) → AreNotAll fault [] old new before now
    → AreNotAll fault writes old new before now
none_cut writes fault old new before now h =
    ⊎_elim (λ same. inl same) (λ cut. absurd (never cut.made cut.next cut.rest cut.split)) h
  where
    never : (made : List Write) (next : Write) (rest : List Write) → [] ≡ made ++ next ∷ rest → ⊥
    never [] next rest e = cc
    never (write ∷ made) next rest e = cc

pub no_writes : (before : Option (List Write)) → option_map (λ noted. noted ++ []) before ≡ before
no_writes None = refl
no_writes (Some noted) = ap Some (append-nil noted)
