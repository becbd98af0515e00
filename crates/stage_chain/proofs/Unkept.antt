-- A keep file that does not begin and end as an entry of a bundle keeps nothing for it, and one that
-- has its front keeps what stands behind that.
use Rattle.plan_num.proofs.Common.{◌≡◌, ℕ, List, ◌++◌, arith, refl, sym, subst, ◌∙◌, Bool, false}
use Rattle.plan_num.proofs.Common.{Option, Some, None, Result, Ok, Err, IfSome, IfOk, option_map}
use Rattle.std.specs.FinMap as files
use Rattle.plan_files.specs.declared.file_fault.FileFault.{FileFault}
use Rattle.plan_files.proofs.Common.{Folder, FoundBehind, LacksEnds}
use Rattle.giv_files.specs.declared.made.Made.{Made}
use Rattle.giv_files.proofs.Common.{BundleParts, Fits}
use Rattle.stage_keep.specs.Entries.{entry_front, given_front, keep_name, last_line}
use Rattle.stage_keep.specs.EntryReading.{read_made}
use Rattle.stage_keep.specs.Honest.{kept_for}
use Rattle.stage_keep.proofs.Framing.{unframed_is_unkept}
use Rattle.stage_keep.proofs.LastParts.{kept_behind, unfronted_is_unkept}
use Rattle.stage_chain.specs.Kept.{kept_in}

-- what a look at the two ends of the keep file tells
pub ends_told : (told : Option Folder) (bundle : BundleParts) (name front back : List ℕ)
    (result : Result Bool FileFault) → name ≡ keep_name bundle.stage → front ≡ entry_front bundle
    → back ≡ last_line
    → IfSome told (λ folder. IfOk result (λ may. may ≡ false
    → IfSome (files.get folder name) (LacksEnds front back)))
    → IfSome told (λ folder. IfOk result (λ may. may ≡ false → kept_in folder bundle ≡ None))
ends_told None bundle name front back result named front_is back_is ends = tt
ends_told (Some folder) bundle name front back (Err fault) named front_is back_is ends = tt
ends_told (Some folder) bundle name front back (Ok may) named front_is back_is ends = λ no.
    by (files.get folder (keep_name bundle.stage))
    (subst (λ (name : List ℕ). IfSome (files.get folder name) (LacksEnds front back)) named (ends no))
  where
    by : (found : Option (List ℕ)) → IfSome found (LacksEnds front back)
        → kept_for bundle found ≡ None
    by None lacking = refl
    by (Some bytes) lacking =
        unframed_is_unkept bundle bytes (omega (arith, lacking.counted))
        (λ middle is. lacking.lacks middle (is ∙ λ i. sym front_is i ++ middle ++ sym back_is i))

-- what is found in the keep file behind the front of an entry
abbrev pub BehindFront : BundleParts → Option (List ℕ) → Folder → Type 0
BehindFront bundle part folder =
    FoundBehind (given_front bundle) (files.get folder (keep_name bundle.stage)) part

-- what is read of a part that is found there is what is kept
pub part_told : (told now : Option Folder) (bundle : BundleParts) (part : List ℕ) (made : Option Made)
    → Fits bundle → now ≡ told → IfSome now (BehindFront bundle (Some part))
    → made ≡ read_made bundle.stage part → IfSome told (λ folder. made ≡ kept_in folder bundle)
part_told None now bundle part made fits same found is = tt
part_told (Some folder) now bundle part made fits same found is = grind (arith, kept_behind)

-- where none is found, nothing is kept
pub no_part_told : (told now : Option Folder) (bundle : BundleParts) → now ≡ told
    → IfSome now (BehindFront bundle None) → IfSome told (λ folder. None ≡ kept_in folder bundle)
no_part_told None now bundle same found = tt
no_part_told (Some folder) now bundle same found = grind (arith, unfronted_is_unkept)

-- what is found behind the pieces of a front, under a name
pub part_found : {X : Type 0} (told : Option Folder) (bundle : BundleParts) (name front : List ℕ)
    (view : X → List ℕ) (result : Result (Option X) FileFault) → name ≡ keep_name bundle.stage
    → front ≡ given_front bundle
    → IfSome told (λ folder. IfOk result (λ part. FoundBehind front (files.get folder name) (option_map view part)))
    → IfSome told (λ folder. IfOk result (λ part. BehindFront bundle (option_map view part) folder))
part_found told bundle name front view result named front_is found = grind arith
