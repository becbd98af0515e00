-- The made files of the folder that a run leaves are those that its hand files determine.
use Rattle.plan_num.proofs.Common.{arith, ◌≡◌, ℕ, Bool, true, false, cond, not, ◌||◌, List, [], ◌∷◌}
use Rattle.plan_num.proofs.Common.{map, Option, Some, None, IfSome, refl, ap, sym, ◌∙◌, nat_cmp}
use Rattle.plan_num.proofs.Common.{slice_cmp, list_all, bytes_eq, false≢true, and_parts, not-true}
use Rattle.plan_num.proofs.Common.{bytes_eq-Decides}
use Rattle.std.specs.FinMap as files
use Rattle.plan_files.proofs.Common.{Folder, get_part, same_folder}
use Rattle.command_line.specs.declared.mode.Mode.{Mode}
use Rattle.stage_chain.specs.Built.{files_of, made}
use Rattle.stage_chain.specs.Hand.{hand_of, is_among, names_made_by}
use Rattle.stage_chain.specs.Kept.{made_over, new_entries, trace_over}
use Rattle.stage_chain.specs.Runs.{Trusts, after, entries_over, made_part, name_of, run_over, started}
use Rattle.stage_chain.specs.Runs.{with_files, without_made}
use Rattle.stage_chain.proofs.BothModes.{both_scratch}
use Rattle.stage_chain.proofs.Left.{other_with, same_with}
use Rattle.stage_chain.proofs.Wishes.{get_behind, names_in}
use Rattle.stage_chain.proofs.WrittenNames.{are_apart, each_among, none_by}
use Rattle.stage_chain.specs.StageLists.{is_kept_name}
use Rattle.stage_chain.specs.StageParts.{StageParts}
use Rattle.stage_chain.specs.Laws.{AreStages}

-- a name among some that all pass a test passes it
passes_by : (test : List ℕ → Bool) (name : List ℕ) (names : List (List ℕ))
    → is_among name names ≡ true → list_all test names ≡ true → test name ≡ true
passes_by test name [] among h = absurd (false≢true among)
passes_by test name (other ∷ names) among h =
    let parts = and_parts _ _ h in
    by (bytes_eq name other) refl among parts.0 (λ rest. passes_by test name names rest parts.1)
  where
    by : (same : Bool) → bytes_eq name other ≡ same → (same || is_among name names) ≡ true
        → test other ≡ true → (is_among name names ≡ true → test name ≡ true) → test name ≡ true
    by true is among here rest = ap test ((bytes_eq-Decides name other).0 is) ∙ here
    by false is among here rest = rest among

module _ (S : StageParts) (laws : AreStages S) where
  part_in : (folder : Folder) (name : List ℕ) (here : Bool)
      → is_among name (names_made_by S.places) ≡ here
      → files.get (made_part S (after S folder)) name
      ≡ files.get (with_files (run_over S folder).files files.empty) name
  unfolding after entries_over made_over
  part_in folder name true is =
      let visits = (trace_over S folder (hand_of folder)).visits in
      let apart = are_apart S laws folder (hand_of folder) in
      let no_keep = not-true (is_kept_name name) (passes_by (λ name. not (is_kept_name name)) name
      (names_made_by S.places) is laws.list.no_keep) in
      get_part (λ name. is_among name (names_made_by S.places)) (after S folder) name
      ∙ ap (λ b. cond b (files.get (after S folder) name) None) is
      ∙ get_behind (new_entries folder visits) (with_files (files_of visits) (without_made S folder)) name
      (none_by is_kept_name name (names_in (new_entries folder visits)) no_keep apart.kept)
      ∙ same_with (files_of visits) (without_made S folder) files.empty name (λ _.
      get_part (λ name. not (is_among name (names_made_by S.places))) folder name
      ∙ ap (λ b. cond (not b) (files.get folder name) None) is ∙ sym (files.get-empty (slice_cmp nat_cmp) name))
  part_in folder name false is =
      let visits = (trace_over S folder (hand_of folder)).visits in
      let apart = are_apart S laws folder (hand_of folder) in
      let within =
      apart.within (λ name. is_among name (names_made_by S.places)) (each_among [] (names_made_by S.places)) in
      get_part (λ name. is_among name (names_made_by S.places)) (after S folder) name
      ∙ ap (λ b. cond b (files.get (after S folder) name) None) is
      ∙ sym (files.get-empty (slice_cmp nat_cmp) name)
      ∙ sym (other_with (files_of visits) files.empty name
      (none_by (λ name. is_among name (names_made_by S.places)) name (map name_of (files_of visits)) is within))

  part_after : (folder : Folder) → made_part S (after S folder) ≡ with_files (run_over S folder).files files.empty
  part_after folder = same_folder (made_part S (after S folder)) (with_files (run_over S folder).files files.empty)
      (λ name. part_in folder name (is_among name (names_made_by S.places)) refl)

  -- The made files that are left are those of a run from scratch.
  pub part_left : (by : Mode) (folder : Folder) (left : Option Folder) → Trusts S by folder
      → left ≡ Some (after S (started by folder))
      → IfSome left (λ left. made_part S left ≡ with_files (made S (hand_of folder)).files files.empty)
  part_left by folder left trusts is = grind (arith, part_after, both_scratch)
