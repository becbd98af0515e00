-- The files that people write stay as they are.
use Rattle.plan_num.proofs.Common.{arith, ◌≡◌, ℕ, true, not, List, [], ◌∷◌, ◌++◌, map, Option, Ok}
use Rattle.plan_num.proofs.Common.{refl, list_all, and_parts, not-true, map-append, list_all-map}
use Rattle.plan_files.specs.declared.write.Write.{Write}
use Rattle.plan_files.specs.declared.write.Write.TheVariants.{Removal}
use Rattle.plan_files.specs.declared.file_fault.FileFault.{FileFault}
use Rattle.plan_files.proofs.Common.{Folder, AreApplied, AreCutShort, AreOutside, outside_both}
use Rattle.plan_files.proofs.Common.{applied_part, cut_part}
use Rattle.giv_files.specs.declared.made.Made.{Made}
use Rattle.giv_files.specs.declared.made.MadeFile.{MadeFile}
use Rattle.giv_files.specs.declared.stage.Stage.{Stage}
use Rattle.giv_files.proofs.Common.{MakesAs, ids_of, BundleParts, stage_makes}
use Rattle.giv_files.specs.declared.stage.Stage.TheVariants as stage
use Rattle.stage_chain.specs.Hand.{is_hand, is_hand_file, hand_of}
use Rattle.stage_chain.specs.Hand.{AreNoHandFiles}
use Rattle.stage_keep.specs.Entries.{keep_name}
use Rattle.stage_chain.specs.Built.{files_of}
use Rattle.stage_chain.specs.Kept.{entry_put, made_over, new_entries, trace_over}
use Rattle.stage_chain.specs.Progress.{NamesNoHand, SoFar, nothing, with_made}
use Rattle.stage_chain.specs.Runs.{IsOnce, SameHand, entries_over, is_met, name_of}
use Rattle.stage_chain.specs.Runs.{put_of, writes_for, writes_of}
use Rattle.stage_chain.proofs.Differing.{all_both, all_filter}
use Rattle.stage_chain.proofs.MadeLists.{made_list}
use Rattle.stage_chain.proofs.Wishes.{names_in, once_some, outside_some}
use Rattle.stage_chain.proofs.WrittenNames.{all_differ, are_apart, kept_no_hand}
use Rattle.stage_chain.proofs.WrittenNames.{own_keep}
use Rattle.stage_chain.specs.StageLists.{is_kept_name}
use Rattle.stage_chain.specs.StageParts.{StageParts}
use Rattle.stage_chain.specs.Laws.{AreStages}

-- nor among what one stage makes
own_no_hand : (stage : Stage)
    → list_all (λ file. not (is_hand_file file)) (stage_makes stage) ≡ true
unfolding is_hand
own_no_hand stage.Load = refl
own_no_hand _ = refl

pub makes_no_hand : (stage : Stage) (files : List MadeFile) → MakesAs stage (ids_of files)
    → AreNoHandFiles files
makes_no_hand stage files makes =
    (made_list stage (ids_of files) makes).within (λ file. not (is_hand_file file)) (own_no_hand stage)

pub both_no_hand : (files more : List MadeFile) → AreNoHandFiles files → AreNoHandFiles more
    → AreNoHandFiles (files ++ more)
both_no_hand files more h k = grind (arith, map-append, all_both)

-- nor under the names of new entries
entry_outside : (bundle : BundleParts) (made : Made)
    → AreOutside is_hand (entry_put bundle made ∷ [])
entry_outside bundle made = (kept_no_hand (keep_name bundle.stage) (own_keep bundle.stage), tt)

pub names_none : (so_far : SoFar) → so_far ≡ nothing → NamesNoHand so_far
names_none so_far e = rw e (record { files = refl; entries = tt })

-- nor among the files so far with those of one stage more
pub kept_no_more : (old new : SoFar) (stage : Stage) (made : Made) → NamesNoHand old
    → MakesAs stage (ids_of made.files) → new ≡ with_made old made [] → NamesNoHand new
kept_no_more old new stage made h makes more = rw more (record {
  files = both_no_hand old.files made.files h.files (makes_no_hand stage made.files makes);
  entries = outside_both is_hand old.entries [] h.entries tt;
})

module _ (S : StageParts) (laws : AreStages S) where
  pub more_no_hand : (old new : SoFar) (bundle : BundleParts) (made : Made) → NamesNoHand old
      → S.run bundle ≡ Ok made → new ≡ with_made old made (entry_put bundle made ∷ [])
      → NamesNoHand new
  more_no_hand old new bundle made h is more = rw more (record {
    files =
        both_no_hand old.files made.files h.files (makes_no_hand bundle.stage made.files (laws.makes bundle made is));
    entries = outside_both is_hand old.entries (entry_put bundle made ∷ []) h.entries (entry_outside bundle made);
  })

-- ---- the writes of a run name no hand file

puts_outside : (files : List MadeFile) → AreNoHandFiles files
    → AreOutside is_hand (map put_of files)
puts_outside [] h = tt
puts_outside (file ∷ files) h =
    let parts = and_parts _ _ h in grind (arith, not-true, puts_outside files parts.1)

pub removals_outside : (names : List (List ℕ)) → list_all (λ name. not (is_hand name)) names ≡ true
    → AreOutside is_hand (map Removal names)
removals_outside [] h = tt
removals_outside (name ∷ names) h =
    let parts = and_parts _ _ h in grind (arith, not-true, removals_outside names parts.1)

module _ (S : StageParts) (laws : AreStages S) where
  -- whatever of their files the stages made
  pub made_outside : (files : List MadeFile) → AreNoHandFiles files
      → AreOutside is_hand (writes_for S files)
  unfolding writes_for
  made_outside files none = grind (arith, outside_both, puts_outside, removals_outside, all_filter)

-- no file that was made over a keep is one that people write
files_no_hand : (made : List MadeFile)
    → list_all (λ name. not (is_hand name)) (map name_of made) ≡ true → AreNoHandFiles made
files_no_hand made h = grind (arith, list_all-map)

entries_outside : (entries : List Write) → list_all is_kept_name (names_in entries) ≡ true
    → AreOutside is_hand entries
entries_outside [] h = tt
entries_outside (entry ∷ entries) h =
    let parts = and_parts _ _ h in grind (arith, kept_no_hand, entries_outside entries parts.1)

module _ (S : StageParts) (laws : AreStages S) where
  pub writes_outside : (folder : Folder) → AreOutside is_hand (writes_of S folder)
  unfolding writes_of made_over entries_over
  writes_outside folder =
      let visits = (trace_over S folder (hand_of folder)).visits in
      let apart = are_apart S laws folder (hand_of folder) in grind (
        arith,
        outside_both,
        outside_some,
        made_outside,
        files_no_hand,
        entries_outside,
      )

  -- and none two files by one name
  pub writes_once : (folder : Folder) → IsOnce (writes_of S folder)
  unfolding writes_of made_over entries_over
  writes_once folder =
      let visits = (trace_over S folder (hand_of folder)).visits in
      once_some (λ write. not (is_met folder write)) (writes_for S (files_of visits)) (new_entries folder visits)
      (all_differ S laws folder visits (are_apart S laws folder (hand_of folder)))

-- writes that name no hand file leave them as before, all or some of them
pub applied_hand : (writes : List Write) (old new : Option Folder) (before now : Option (List Write))
    → AreOutside is_hand writes → AreApplied writes old new before now → SameHand old new
unfolding hand_of
applied_hand writes old new before now out h =
    applied_part is_hand writes old new before now out h

pub cut_hand : (fault : FileFault) (writes : List Write) (old new : Option Folder)
    (before now : Option (List Write))
    → AreOutside is_hand writes → AreCutShort fault writes old new before now → SameHand old new
unfolding hand_of
cut_hand fault writes old new before now out h =
    cut_part is_hand fault writes old new before now out h
