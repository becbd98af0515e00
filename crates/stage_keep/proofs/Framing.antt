-- Bytes that do not begin and end as the entry of a bundle keep nothing for it.
use Rattle.plan_num.proofs.Common.{arith, ◌≡◌, ◌≢◌, ◌<◌, ◌^◌, [], ◌∷◌, ◌++◌, length, map, codes}
use Rattle.plan_num.proofs.Common.{◌∙◌, true, Some, None, option_and_then, flat_map, pointwise}
use Rattle.plan_num.proofs.Common.{bytes_eq, and_parts, bytes_eq-Decides}
use Rattle.std.proofs.Common.{ℕ, List}
use Rattle.giv_files.proofs.Common.{BundleParts, settings_text}
use Rattle.stage_keep.specs.Entries.{EntryParts, block_bytes, entry_bytes, entry_front, input_block}
use Rattle.stage_keep.specs.Entries.{last_line, made_block}
use Rattle.stage_keep.specs.Honest.{kept_for, matches}
use Rattle.stage_keep.proofs.EntriesRead.{reading_is_exact}

-- what stands behind the settings of an entry, but for the last line
unfoldable pub behind_settings : EntryParts → List ℕ
behind_settings entry =
    flat_map block_bytes (map input_block entry.inputs ++ map made_block entry.made.files
    ++ record { head = codes "report"; text = entry.made.report } ∷ [])

-- an entry has the front of each bundle whose settings it has, and the last line
pub framed : (bundle : BundleParts) (entry : EntryParts) → entry.settings ≡ settings_text bundle.settings
    → entry_bytes bundle.stage entry ≡ entry_front bundle ++ behind_settings entry ++ last_line
unfolding entry_bytes behind_settings
framed bundle entry same = grind arith

-- bytes that are the bytes of no entry of the bundle are not kept for it
pub none_kept : (bundle : BundleParts) (bytes : List ℕ) → length bytes < 2 ^ 64
    → ((entry : EntryParts) → matches entry bundle ≡ true → bytes ≡ entry_bytes bundle.stage entry → ⊥)
    → kept_for bundle (Some bytes) ≡ None
none_kept bundle bytes short never = grind (arith, option_and_then, reading_is_exact)

-- bytes without such ends are no entry of the bundle
pub unframed_is_unkept : (bundle : BundleParts) (bytes : List ℕ) → length bytes < 2 ^ 64
    → ((middle : List ℕ) → bytes ≢ entry_front bundle ++ middle ++ last_line)
    → kept_for bundle (Some bytes) ≡ None
unframed_is_unkept bundle bytes short lacks = none_kept bundle bytes short (λ entry same is.
    let both = and_parts (bytes_eq entry.settings (settings_text bundle.settings))
    (pointwise bytes_eq entry.inputs bundle.inputs) same in
    let text = (bytes_eq-Decides entry.settings (settings_text bundle.settings)).0 both.0 in
    lacks (behind_settings entry) (is ∙ framed bundle entry text))
