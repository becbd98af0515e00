-- After a fresh run what is kept are the new entries, and nothing else.
use Rattle.plan_num.proofs.Common.{arith, ◌≡◌, ℕ, Bool, true, false, cond, ◌||◌, List, [], ◌∷◌, map}
use Rattle.plan_num.proofs.Common.{None, refl, ap, sym, ◌∙◌, nat_cmp, Option, Some, IfSome}
use Rattle.plan_num.proofs.Common.{slice_cmp, bytes_eq, false≢true, bytes_eq-Decides}
use Rattle.std.specs.FinMap as files
use Rattle.plan_files.specs.declared.write.Write.{Write}
use Rattle.plan_files.proofs.Common.{after_write, folder_after, left_by, write_name, Folder}
use Rattle.plan_files.proofs.Common.{get_part, same_folder, get_written}
use Rattle.giv_files.specs.declared.stage.Stage.{Stage}
use Rattle.giv_files.proofs.Common.{all_stages}
use Rattle.stage_keep.specs.Entries.{keep_name}
use Rattle.command_line.specs.declared.mode.Mode.{Mode}
use Rattle.command_line.specs.declared.mode.Mode.TheVariants as mode
use Rattle.stage_chain.specs.Hand.{hand_of, is_among, keep_names}
use Rattle.stage_chain.specs.Kept.{made_over, new_entries}
use Rattle.stage_chain.specs.Runs.{FreshKeeps, after, entries_over, kept_part, started, without_keep}
use Rattle.stage_chain.specs.StageLists.{is_kept_name}
use Rattle.stage_chain.specs.StageParts.{StageParts}
use Rattle.stage_chain.specs.Laws.{AreStages}
use Rattle.stage_chain.proofs.BothModes.{fresh_none}
use Rattle.stage_chain.proofs.KeptAfter.{base_keeps, made_base, run_visits}
use Rattle.stage_chain.proofs.Wishes.{get_behind, names_in}
use Rattle.stage_chain.proofs.WrittenNames.{are_apart, none_by}

-- writes leave the same under a name where the same was there
after_same : (writes : List Write) (folder other : Folder) (name : List ℕ)
    → files.get folder name ≡ files.get other name
    → files.get (folder_after writes folder) name ≡ files.get (folder_after writes other) name
after_same [] folder other name same = same
after_same (write ∷ writes) folder other name same =
    after_same writes (after_write write folder) (after_write write other) name
    (get_written write folder name
    ∙ ap (λ found. cond (bytes_eq name (write_name write)) (left_by write) found) same
    ∙ sym (get_written write other name))

-- the name of a keep file is that of a stage
keeper : (name : List ℕ) (stages : List Stage) → is_among name (map keep_name stages) ≡ true
    → (at : Stage) × (name ≡ keep_name at)
keeper name [] among = absurd (false≢true among)
keeper name (at ∷ stages) among = by (bytes_eq name (keep_name at)) refl (keeper name stages) among
  where
    by : (here : Bool) → bytes_eq name (keep_name at) ≡ here
        → (is_among name (map keep_name stages) ≡ true → (at : Stage) × (name ≡ keep_name at))
        → (here || is_among name (map keep_name stages)) ≡ true → (at : Stage) × (name ≡ keep_name at)
    by true is rest among = (at, (bytes_eq-Decides name (keep_name at)).0 is)
    by false is rest among = rest among

module _ (S : StageParts) (laws : AreStages S) (folder : Folder) where
  abbrev base : Folder
  base = without_keep folder

  abbrev entries : List Write
  entries = new_entries base (run_visits S laws base)

  kept_under : (name : List ℕ) (kept : Bool) → is_among name keep_names ≡ kept
      → cond kept (files.get (folder_after entries (made_base S laws base)) name) None
      ≡ files.get (folder_after entries files.empty) name
  kept_under name true is =
      let at = keeper name all_stages is in
      after_same entries (made_base S laws base) files.empty name
      (ap (files.get (made_base S laws base)) at.1 ∙ base_keeps S laws base at.0 ∙ fresh_none folder at.0
      ∙ sym (files.get-empty (slice_cmp nat_cmp) name))
  kept_under name false is =
      sym (get_behind entries files.empty name
      (none_by is_kept_name name (names_in entries) is (are_apart S laws base (hand_of base)).kept)
      ∙ files.get-empty (slice_cmp nat_cmp) name)

  pub fresh_keeps : FreshKeeps S folder
  unfolding FreshKeeps after entries_over made_over
  fresh_keeps = grind (arith, same_folder, get_part, kept_under)

-- so it is of the folder that a fresh run left
pub fresh_left : (S : StageParts) (laws : AreStages S) (by : Mode) (read : Folder) (left : Option Folder)
    → left ≡ Some (after S (started by read)) → by ≡ mode.Fresh
    → IfSome left (λ folder. kept_part folder ≡ folder_after (entries_over S (without_keep read)) files.empty)
unfolding FreshKeeps
fresh_left S laws mode.Make read left is fresh = absurd (cc)
fresh_left S laws mode.Fresh read left is fresh = grind (arith, fresh_keeps)
