-- What is read as an entry of what was made is honest, and so is a front of it; what an honest keep
-- holds is made.
use Rattle.plan_num.proofs.Common.{arith, ◌≡◌, ℕ, List, refl, ap, sym, subst, ◌∙◌, true, cond}
use Rattle.plan_num.proofs.Common.{Option, Some, None, option_and_then, Result, Ok, pointwise}
use Rattle.plan_num.proofs.Common.{bytes_eq, and_parts, same_Some, bytes_eq-Decides}
use Rattle.std.proofs.lemmas.Slice.Eq.{slice_eq-Decides}
use Rattle.giv_files.specs.declared.made.Made.{Made}
use Rattle.giv_files.proofs.Common.{MakesAs, ids_of, BundleParts, Fits, SettingsFit, settings_text}
use Rattle.giv_files.proofs.Common.{text_tells}
use Rattle.tables.specs.declared.refusal.Refusal.{Refusal}
use Rattle.stage_keep.specs.Entries.{entry_for}
use Rattle.stage_keep.specs.EntryReading.{read_entry}
use Rattle.stage_keep.specs.Honest.{IsHonest, held_for, kept_for, matches}
use Rattle.stage_keep.proofs.EntryLaws.{FrontsAreHonest, HonestIsMade}
use Rattle.stage_keep.proofs.EntriesRead.{fronts_are_none, read_makes}

pub texts_decide : (xs ys : List (List ℕ)) → (pointwise bytes_eq xs ys ≡ true → xs ≡ ys)
    × (xs ≡ ys → pointwise bytes_eq xs ys ≡ true)
texts_decide xs ys = slice_eq-Decides bytes_eq-Decides xs ys (pointwise bytes_eq xs ys) refl

-- the entry of a bundle is one of it
pub own_entry : (bundle : BundleParts) (made : Made) → matches (entry_for bundle made) bundle ≡ true
own_entry bundle made = grind (arith, bytes_eq-Decides, texts_decide)

-- where the entry of a bundle is read back, it is what is kept of that bundle
pub own_kept : (bundle : BundleParts) (made : Made) (bytes : List ℕ)
    → read_entry bundle.stage bytes ≡ Some (entry_for bundle made)
    → kept_for bundle (Some bytes) ≡ Some made
own_kept bundle made bytes back =
    ap (option_and_then (held_for bundle)) back
    ∙ ap (λ b. cond b (Some made) None) (own_entry bundle made)

-- the files that are kept are some that the stage makes
pub kept_makes : (bundle : BundleParts) (text : Option (List ℕ)) (made : Made)
    → kept_for bundle text ≡ Some made → MakesAs bundle.stage (ids_of made.files)
kept_makes bundle None made found = absurd (cc)
kept_makes bundle (Some bytes) made found = grind (arith, same_Some, read_makes, option_and_then)

-- an entry of a bundle matches no other bundle of its stage
same_bundle : (bundle other : BundleParts) (made : Made) → Fits bundle → Fits other
    → other.stage ≡ bundle.stage → matches (entry_for bundle made) other ≡ true → other ≡ bundle
same_bundle bundle other made fits also stage is =
    let both = and_parts (bytes_eq (settings_text bundle.settings) (settings_text other.settings))
    (pointwise bytes_eq bundle.inputs other.inputs) is in
    let text = (bytes_eq-Decides (settings_text bundle.settings) (settings_text other.settings)).0 both.0 in
    let inputs = (texts_decide bundle.inputs other.inputs).0 both.1 in
    let settings = text_tells bundle.settings (settings_text bundle.settings) refl bundle.stage
    other.settings fits.settings
    (subst (λ at. SettingsFit at other.settings) stage also.settings) (sym text) in
    λ i. record { stage = stage i; settings = settings i; inputs = sym inputs i }

-- bytes that are read as the entry of a bundle and of what its stage makes of it are honest
pub read_is_honest : (makes : BundleParts → Result Made Refusal) (bundle : BundleParts) (made : Made)
    (bytes : List ℕ) → Fits bundle → read_entry bundle.stage bytes ≡ Some (entry_for bundle made)
    → makes bundle ≡ Ok made → IsHonest makes bundle.stage bytes
read_is_honest makes bundle made bytes fits back is = λ entry other read stage also matching.
    let own = same_Some (entry_for bundle made) entry (sym back ∙ read) in
    ap makes (same_bundle bundle other made fits also stage
    (ap (λ e. matches e other) own ∙ matching))
    ∙ is ∙ ap (λ e. Ok e.made) own

pub fronts_are_honest : FrontsAreHonest
fronts_are_honest makes stage entry front more of whole some = grind (arith, fronts_are_none)

pub honest_is_made : HonestIsMade
honest_is_made makes kept honest bundle made fits = grind (arith, same_Some, option_and_then)
