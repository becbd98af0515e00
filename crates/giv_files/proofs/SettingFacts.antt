-- The keys of settings that fit a stage are there, with values in their ranges.
use Rattle.plan_num.proofs.Common.{◌≡◌, ℕ, ℤ, pos, negsuc, ◌≤◌, ◌||◌, Bool, eqb-true, cond, true}
use Rattle.plan_num.proofs.Common.{false, List, [], ◌∷◌, map, Some, int_le, unsigned_abs, unwrap_or}
use Rattle.plan_num.proofs.Common.{option_map, refl, ap, subst, sym, ◌∙◌, arith, find, list_all}
use Rattle.plan_num.proofs.Common.{list_any, and_parts, T_from_true, ints, same_Some}
use Rattle.std.proofs.lemmas.Map.Views.{any-filter_same}
use Rattle.giv_files.specs.declared.key.Key.{Key}
use Rattle.giv_files.specs.declared.key.Key.TheVariants as key
use Rattle.giv_files.specs.declared.setting.Setting.{Setting}
use Rattle.giv_files.specs.declared.stage.Stage.{Stage}
use Rattle.giv_files.specs.KeyKinds.{least, greatest}
use Rattle.giv_files.specs.Keys.{is_key, key_kind, allows, all_keys, has_key, stage_keys}
use Rattle.giv_files.specs.Settings.{value_of, is_allowed, amount, SettingsFit}
use Rattle.giv_files.proofs.KeyPlaces.{same_key}

-- the value of a key is one that the key may have
pub value_allowed : (settings : List Setting) (k : Key) (value : ℤ)
    → list_all is_allowed settings ≡ true → value_of settings k ≡ Some value → allows k value ≡ true
value_allowed [] k value all is = cc
value_allowed (first ∷ settings) k value all is =
    let parts = and_parts (is_allowed first) (list_all is_allowed settings) all in
    elim (is_key k first.key) as (λ b. is_key k first.key ≡ b
    → option_map (λ setting. setting.value)
    (cond b (Some first) (find (λ setting. is_key k setting.key) settings)) ≡ Some value
    → allows k value ≡ true) [
      | true ↦ λ own given.
          let same : first.value ≡ value = same_Some _ _ given in
          subst (λ j. allows j value ≡ true) (same_key first.key k (eqb-true _ _ own)) (ap (allows first.key) (sym same) ∙ parts.0)
      | false ↦ λ other later. value_allowed settings k value parts.1 later
    ] refl is

-- a key that is among those of settings has a value there
value_there : (settings : List Setting) (k : Key)
    → list_any (is_key k) (map (λ setting. setting.key) settings) ≡ true
    → (value : ℤ) × (value_of settings k ≡ Some value)
value_there [] k some = cc
value_there (first ∷ settings) k some = at_first (is_key k first.key) refl some
    (value_there settings k)
  where
    at_first : (b : Bool) → is_key k first.key ≡ b
        → (b || list_any (is_key k) (map (λ setting. setting.key) settings)) ≡ true
        → (list_any (is_key k) (map (λ setting. setting.key) settings) ≡ true
        → (value : ℤ) × (value_of settings k ≡ Some value))
        → (value : ℤ) × (value_of (first ∷ settings) k ≡ Some value)
    at_first true own some rest = (
      first.value,
      ap
          (λ b. option_map (λ setting. setting.value)
          (cond b (Some first) (find (λ setting. is_key k setting.key) settings))) own,
    )
    at_first false other some rest =
        let later = rest some in (
          later.0,
          ap (λ b. option_map (λ setting. setting.value)
              (cond b (Some first) (find (λ setting. is_key k setting.key) settings))) other
              ∙ later.1,
        )

pub among_all : (k : Key) → list_any (is_key k) all_keys ≡ true
among_all key.LastStage = refl
among_all _ = refl

-- a key that a stage has is among the keys of the stage
among_keys : (stage : Stage) (k : Key) → has_key stage k ≡ true
    → list_any (is_key k) (stage_keys stage) ≡ true
unfolding stage_keys
among_keys stage k has = any-filter_same (is_key k) (has_key stage) true
    (λ j same. subst (λ other. has_key stage other ≡ true)
    (sym (same_key j k (eqb-true _ _ same))) has) all_keys ∙ among_all k

-- a key of a stage has a value among settings that fit the stage, and one that it may have
pub key_there : (stage : Stage) (settings : List Setting) (k : Key) → SettingsFit stage settings
    → has_key stage k ≡ true → (value : ℤ) × (value_of settings k ≡ Some value)
    × (allows k value ≡ true)
key_there stage settings k fits has =
    let there = value_there settings k (ap (list_any (is_key k)) fits.keys
    ∙ among_keys stage k has) in grind (arith, value_allowed)

unsigned_allowed : (k : Key) (value : ℤ) → allows k value ≡ true
    → allows k (pos (unsigned_abs value)) ≡ true
unsigned_allowed k (pos n) is = is
unsigned_allowed key.LastStage (negsuc n) is = grind (arith, ints)
unsigned_allowed _ (negsuc n) is = grind (arith, ints)

-- so its amount is one that it may have
pub amount_allowed : (stage : Stage) (settings : List Setting) (k : Key)
    → SettingsFit stage settings → has_key stage k ≡ true
    → allows k (pos (amount settings k)) ≡ true
amount_allowed stage settings k fits has =
    let there = key_there stage settings k fits has in grind (
      arith,
      unsigned_abs,
      unwrap_or,
      unsigned_allowed,
    )

-- and lies in the range of the key, where that has no numbers below 0
pub amount_within : (stage : Stage) (settings : List Setting) (k : Key) (low high : ℕ)
    → SettingsFit stage settings → has_key stage k ≡ true → least (key_kind k) ≡ pos low
    → greatest (key_kind k) ≡ pos high
    → (low ≤ amount settings k) × (amount settings k ≤ high)
amount_within stage settings k low high fits has from to =
    let within = and_parts (int_le (least (key_kind k)) (pos (amount settings k)))
    (int_le (pos (amount settings k)) (greatest (key_kind k)))
    (amount_allowed stage settings k fits has) in grind (arith, T_from_true, ints)
