-- Keys by their places.
use Rattle.plan_num.proofs.Common.{◌≡◌, ◌<◌, length, get_or, refl, ap, sym, ◌∙◌, arith}
use Rattle.giv_files.specs.declared.key.Key.{Key}
use Rattle.giv_files.specs.declared.key.Key.TheVariants as key
use Rattle.giv_files.specs.Keys.{key_place, all_keys}

-- each key stands at its place
pub key_there : (k d : Key) → (get_or all_keys (key_place k) d ≡ k)
    × (key_place k < length all_keys)
key_there key.LastStage d = (refl, omega arith)
key_there _ d = (refl, omega arith)

-- keys at one place are one
pub same_key : (j k : Key) → key_place j ≡ key_place k → j ≡ k
same_key j k e = sym (key_there j j).0 ∙ ap (λ place. get_or all_keys place j) e ∙ (key_there k j).0
