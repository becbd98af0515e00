-- Values of keys that are settled, and what holds of them.
use Rattle.plan_num.proofs.Common.{arith, ◌≡◌, ℕ, ℤ, pos, ◌+◌, ◌<◌, ◌≤◌, Bool, true, false, cond}
use Rattle.plan_num.proofs.Common.{not, List, [], ◌∷◌, ◌++◌, length, map, take, drop, get_or}
use Rattle.plan_num.proofs.Common.{Option, Some, None, is_some, unwrap_or, Ok, Err, refl, ap, sym}
use Rattle.plan_num.proofs.Common.{subst, ◌∙◌, filter, find, list_all, option_map, option_map_or}
use Rattle.plan_num.proofs.Common.{eqb-true, take_all, take_more, take-append-drop, get_or-map}
use Rattle.plan_num.proofs.Common.{map-append, append-nil, filter_more, find-append}
use Rattle.giv_files.specs.declared.key.Key.{Key}
use Rattle.giv_files.specs.declared.setting.Setting.{Setting}
use Rattle.giv_files.specs.declared.stage.Stage.{Stage}
use Rattle.giv_files.specs.declared.cross_rule.CrossRule.{CrossRule}
use Rattle.giv_files.proofs.Common.{cross_rule, keeps_bound, keeps, keeps_rule, kept_if, spelled_as}
use Rattle.giv_files.proofs.Common.{all_keys, key_place, is_key, key_kind, key_default, allows}
use Rattle.giv_files.proofs.Common.{has_key, SettingsFit, value_of, key_there, same_key}
use Rattle.giv_files.specs.declared.key.Key.TheVariants as key
use Rattle.giv_files.specs.Keys.{stage_keys}
use Rattle.plan_files.specs.declared.store.Got.{Got}
use Rattle.config_keys.specs.declared.config_fault.ConfigFault.{ConfigFault}
use Rattle.config_keys.specs.declared.config_fault.ConfigFault.TheVariants as fault
use Rattle.config_keys.specs.Items.{config_items, first_fault}
use Rattle.config_keys.specs.Values.{effective, settings_of, said_in, own_value, own_in, good_value}
use Rattle.config_keys.specs.Values.{first_bad, values_in, settled}
use Rattle.config_keys.specs.Config.{value_at, setting_at, AreSettings, part_of}
use Rattle.config_keys.proofs.KeyNames.{find_none}

-- the first that is found
pub found_first : {X : Type 0} (p : X → Bool) (xs : List X) (i : ℕ) (d : X) → i < length xs
    → find p (take i xs) ≡ None → p (get_or xs i d) ≡ true → find p xs ≡ Some (get_or xs i d)
found_first p xs i d h e f =
    let front : find p (take (i + 1) xs) ≡ Some (get_or xs i d) =
    rw (take_more xs i d h, find-append p (take i xs) (get_or xs i d ∷ []), e, f) refl in
    sym (ap (find p) (take-append-drop (i + 1) xs)) ∙ find-append p (take (i + 1) xs) (drop (i + 1) xs) ∙ rw front refl

-- a key whose value is bad
pub settled_bad : (said : Key → Option (List ℕ)) (keys : List Key) (i : ℕ) (d : Key) → keys ≡ all_keys
    → i < length keys → find (λ key. not (is_some (good_value said key))) (take i keys) ≡ None
    → good_value said (get_or keys i d) ≡ None
    → settled said ≡ Err (fault.BadValue (get_or keys i d))
unfolding settled
settled_bad said keys i d e h none bad =
    let found : first_bad said ≡ Some (get_or keys i d) = sym (ap (find (λ key. not (is_some (good_value said key))))
    e) ∙ found_first (λ key. not (is_some (good_value said key))) keys i d h none (rw bad refl) in
    rw found refl

-- one key more, whose value is good
pub settled_more : (said : Key → Option (List ℕ)) (keys : List Key) (values : List ℤ) (i : ℕ) (d : Key)
    (value : ℤ) → i < length keys → find (λ key. not (is_some (good_value said key))) (take i keys) ≡ None
    → values ≡ map (λ key. unwrap_or (good_value said key) (pos 0)) (take i keys)
    → good_value said (get_or keys i d) ≡ Some value
    → (find (λ key. not (is_some (good_value said key))) (take (i + 1) keys) ≡ None)
    × (values ++ value ∷ [] ≡ map (λ key. unwrap_or (good_value said key) (pos 0)) (take (i + 1) keys))
settled_more said keys values i d value h none told good = (
  rw (
    take_more keys i d h,
    find-append (λ key. not (is_some (good_value said key))) (take i keys) (get_or keys i d ∷ []),
    none,
    good,
  ) refl,
  rw (
    take_more keys i d h,
    map-append (λ key. unwrap_or (good_value said key) (pos 0)) (take i keys)
        (get_or keys i d ∷ []),
    told,
    good,
  ) refl,
)

-- no key whose value is bad
pub settled_good : (said : Key → Option (List ℕ)) (keys : List Key) (values : List ℤ) (i : ℕ) → keys ≡ all_keys
    → length keys ≤ i → find (λ key. not (is_some (good_value said key))) (take i keys) ≡ None
    → values ≡ map (λ key. unwrap_or (good_value said key) (pos 0)) (take i keys) → (settled said ≡ Ok values)
    × (first_bad said ≡ None) × (values ≡ values_in said)
unfolding settled
settled_good said keys values i e h none told = grind (arith, take_all)

-- a value that is kept passes the test
kept_some : (test : ℤ → Bool) (o : Option ℤ) (value : ℤ) → kept_if test o ≡ Some value → (o ≡ Some value)
    × (test value ≡ true)
kept_some test None value e = cc
kept_some test (Some other) value e = grind arith

default_allowed : (k : Key) → allows k (key_default k) ≡ true
default_allowed key.LastStage = refl
default_allowed _ = refl

-- a key's own value is allowed
own_allowed : (k : Key) (said : Option (List ℕ)) (value : ℤ) → own_value k said ≡ Some value → allows k value ≡ true
unfolding own_value
own_allowed k None value e = let same : key_default k ≡ value = cc in rw same at (default_allowed k)
own_allowed k (Some field) value e = (kept_some (allows k) (spelled_as (key_kind k) field) value e).1

some_value : (o : Option ℤ) → not (is_some o) ≡ false → o ≡ Some (unwrap_or o (pos 0))
some_value None e = cc
some_value (Some value) e = refl

module _ (said : Key → Option (List ℕ)) (good : first_bad said ≡ None) where
  -- the value of each key is good, and is that of the list
  good_there : (k : Key) → good_value said k ≡ Some (value_at (values_in said) k)
  good_there k =
      let there = key_there k k in
      let some = some_value (good_value said k) (rw there.0 at
      (find_none (λ key. not (is_some (good_value said key))) all_keys (key_place k) k good there.1)) in
      let at = get_or-map (λ key. unwrap_or (good_value said key) (pos 0)) all_keys (key_place k) k (pos 0) there.1 in
      some ∙ ap Some (sym (at ∙ ap (λ (j : Key). unwrap_or (good_value said j) (pos 0)) there.0))

  own_there : (k : Key) → (own_in said k ≡ Some (value_at (values_in said) k))
      × (keeps_rule (own_in said) k (value_at (values_in said) k) ≡ true)
  unfolding good_value
  own_there k = kept_some (keeps_rule (own_in said) k) (own_in said k) (value_at (values_in said) k)
      (good_there k)

  -- a rule is kept by the values of the list
  kept_there : (rule : Option CrossRule) (value : ℤ)
      → keeps (own_in said) rule value ≡ keeps (λ other. Some (value_at (values_in said) other))
      rule value
  kept_there None value = refl
  kept_there (Some rule) value = ap (λ other. option_map_or
      (λ floor. keeps_bound rule.bound floor value) other true) (own_there rule.other).0

  -- settled values are settings
  pub are_settings : AreSettings (values_in said)
  are_settings = record {
    whole = refl;
    allowed = λ k. own_allowed k (said k) (value_at (values_in said) k) (own_there k).0;
    uncrossed = λ k. sym (kept_there (cross_rule k) (value_at (values_in said) k))
        ∙ (own_there k).1;
  }

-- what holds of each holds of all
all_mapped : {X Y : Type 0} (p : Y → Bool) (f : X → Y) (xs : List X) → ((x : X) → p (f x) ≡ true)
    → list_all p (map f xs) ≡ true
all_mapped p f [] h = refl
all_mapped p f (x ∷ xs) h = rw (h x) (all_mapped p f xs h)

-- a key that a stage does not have is passed over
pub passed_over : (stage : Stage) (keys : List Key) (i : ℕ) (d : Key) → i < length keys
    → has_key stage (get_or keys i d) ≡ false → filter (has_key stage) (take i keys)
    ≡ filter (has_key stage) (take (i + 1) keys)
passed_over stage keys i d h not =
    sym (filter_more (has_key stage) keys i d h
    ∙ ap (λ b. filter (has_key stage) (take i keys) ++ cond b (get_or keys i d ∷ []) []) not
    ∙ append-nil (filter (has_key stage) (take i keys)))

module _ (values : List ℤ) where
  -- the value of a key among some of the settings: none, or that of the key
  value_among : (P : Option ℤ → Type 0) (k : Key) (keys : List Key) → P None
      → P (Some (value_at values k)) → P (value_of (map (setting_at values) keys) k)
  value_among P k [] none some = none
  value_among P k (j ∷ keys) none some = at_key (is_key k j) refl (value_among P k keys none some)
    where
      at_key : (t : Bool) → is_key k j ≡ t → P (value_of (map (setting_at values) keys) k)
          → P (option_map (λ (setting : Setting). setting.value)
          (cond t (Some (setting_at values j))
          (find (λ (setting : Setting). is_key k setting.key) (map (setting_at values) keys))))
      at_key true e rest = let same : j ≡ k = same_key j k (eqb-true _ _ e) in
          subst (λ i. P (Some (value_at values i))) (sym same) some
      at_key false e rest = rest

  kept_among : (value : ℤ) (rule : Option CrossRule) (keys : List Key)
      → keeps (λ other. Some (value_at values other)) rule value ≡ true
      → keeps (value_of (map (setting_at values) keys)) rule value ≡ true
  kept_among value None keys h = refl
  kept_among value (Some rule) keys h = value_among
      (λ other. option_map_or (λ floor. keeps_bound rule.bound floor value) other true ≡ true)
      rule.other keys refl h

  keys_are : (keys : List Key) → map (λ (setting : Setting). setting.key)
      (map (setting_at values) keys) ≡ keys
  keys_are [] = refl
  keys_are (k ∷ keys) = ap (λ rest. k ∷ rest) (keys_are keys)

  -- the settings of a stage fit it
  pub part_fits : (stage : Stage) → AreSettings values → SettingsFit stage (part_of values stage)
  part_fits stage h = grind (arith, keys_are, all_mapped, kept_among)

  -- one key more, which the stage has
  pub part_more : (stage : Stage) (keys : List Key) (i : ℕ) (d : Key) → i < length keys
      → has_key stage (get_or keys i d) ≡ true
      → map (setting_at values) (filter (has_key stage) (take i keys))
      ++ setting_at values (get_or keys i d) ∷ []
      ≡ map (setting_at values) (filter (has_key stage) (take (i + 1) keys))
  part_more stage keys i d h is =
      sym (map-append (setting_at values) (filter (has_key stage) (take i keys))
      (get_or keys i d ∷ []))
      ∙ sym (ap (map (setting_at values)) (filter_more (has_key stage) keys i d h
      ∙ ap (λ b. filter (has_key stage) (take i keys) ++ cond b (get_or keys i d ∷ []) []) is))

  pub part_whole : (stage : Stage) (settings : List Setting) (keys : List Key) (i : ℕ)
      → keys ≡ all_keys → length keys ≤ i → settings
      ≡ map (setting_at values) (filter (has_key stage) (take i keys))
      → settings ≡ part_of values stage
  unfolding stage_keys
  part_whole stage settings keys i e h told = told
      ∙ ap (λ all. map (setting_at values) (filter (has_key stage) all)) (take_all i keys h ∙ e)

-- ---- the settings of a dataset that are not refused

without_fault : (said : Key → Option (List ℕ)) (fault : Option ConfigFault) (values : List ℤ)
    → option_map_or (λ reason. Err reason) fault (settled said) ≡ Ok values → settled said ≡ Ok values
without_fault said None values e = e
without_fault said (Some reason) values e = absurd (cc)

without_bad : (said : Key → Option (List ℕ)) (bad : Option Key) (values : List ℤ) → first_bad said ≡ bad
    → option_map_or (λ key. Err (fault.BadValue key)) bad (Ok (values_in said)) ≡ Ok values → AreSettings values
without_bad said None values good e =
    let same : values_in said ≡ values = cc in grind (arith, are_settings)
without_bad said (Some key) values good e = absurd (cc)

pub effective_settings : (look : List ℕ → Got) (values : List ℤ) → effective look ≡ Ok values → AreSettings values
unfolding settings_of settled
effective_settings look values e =
    let said = said_in (config_items look) in
    without_bad said (first_bad said) values refl (without_fault said (first_fault 0 (config_items look)) values e)
