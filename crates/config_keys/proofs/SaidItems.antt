-- What is said of keys, as items.
use Rattle.plan_num.proofs.Common.{arith, ◌≡◌, ℕ, ◌+◌, Bool, true, false, cond, eqb, List, [], ◌∷◌}
use Rattle.plan_num.proofs.Common.{◌++◌, take, get_or, length, ◌<◌, ◌≤◌, Option, Some, None, refl}
use Rattle.plan_num.proofs.Common.{sym, ap, ◌∙◌, flat_map, option_map_or, bytes_eq, take_all}
use Rattle.plan_num.proofs.Common.{take_more, flat_map-append, eqb-true, nat_tests}
use Rattle.giv_files.specs.declared.key.Key.{Key}
use Rattle.giv_files.proofs.Common.{all_keys, key_place, key_name, same_key}
use Rattle.giv_files.specs.declared.key.Key.TheVariants as key
use Rattle.config_keys.specs.declared.reading.Reading.{Reading}
use Rattle.config_keys.specs.declared.said.Said.{Said}
use Rattle.config_keys.specs.Items.{Item, Setting, first_fault, include_count, last_said}
use Rattle.config_keys.specs.ReadSoFar.{text_of, said_item, said_items, key_named, SaysOn, ReadOn}
use Rattle.config_keys.specs.SettingsFiles.{Alike}
use Rattle.config_keys.proofs.KeyNames.{unnamed, named}
use Rattle.config_keys.proofs.Steps.{first_fault-further, include_count-append, last_said-append}

-- each key is that of its name
known : (k : Key) → key_named (key_name k) ≡ Some k
known key.LastStage = refl
known _ = refl

-- a name that no key has says nothing
pub says_nothing : (name value : List ℕ) (said : Said) → key_named name ≡ None
    → SaysOn (Setting name value ∷ []) said said
unfolding last_said
says_nothing name value said e = λ k. rw (unnamed name k e) refl

-- the name of a key says its value
pub says_named : (name value : List ℕ) (found : Key) (old new : Said) → key_named name ≡ Some found
    → SaysOn (Setting (key_name found) value ∷ []) old new → SaysOn (Setting name value ∷ []) old new
unfolding last_said
says_named name value found old new e h =
    λ k. rw (named name found k e, ← named (key_name found) found k (known found)) (h k)

-- a key with its value is put
pub says_put : (value : List ℕ) (found : Key) (old new : Said)
    → ((k : Key) → text_of new k ≡ cond (eqb (key_place found) (key_place k)) (Some value) (text_of old k))
    → SaysOn (Setting (key_name found) value ∷ []) old new
unfolding last_said
says_put value found old new h = λ k. rw (named (key_name found) found k (known found)) (h k)

-- of a key of which nothing is said later
pub item_none : (later old : Said) (k : Key) → text_of later k ≡ None → SaysOn (said_item later k) old old
unfolding last_said
item_none later old k e = rw e (λ j. refl)

-- at first
pub says_begin : (later said : Said) (keys : List Key) → SaysOn (flat_map (said_item later) (take 0 keys)) said said
unfolding last_said
says_begin later said keys = λ k. refl

-- one key more
pub says_more : (later old mid new : Said) (keys : List Key) (i : ℕ) (d : Key) → i < length keys
    → SaysOn (flat_map (said_item later) (take i keys)) old mid → SaysOn (said_item later (get_or keys i d)) mid new
    → SaysOn (flat_map (said_item later) (take (i + 1) keys)) old new
says_more later old mid new keys i d h one two = λ k.
    rw (
      take_more keys i d h,
      flat_map-append (said_item later) (take i keys) (get_or keys i d ∷ []),
      last_said-append (key_name k) (text_of old k) (flat_map (said_item later) (take i keys))
          (flat_map (said_item later) (get_or keys i d ∷ [])),
    )
    (grind arith)

-- all keys
pub says_all : (later old new : Said) (keys : List Key) (i : ℕ) → keys ≡ all_keys → length keys ≤ i
    → SaysOn (flat_map (said_item later) (take i keys)) old new → SaysOn (said_items later) old new
says_all later old new keys i e h says = rw (take_all i keys h, e) at says

-- ---- items that are said are settings alone

module _ (said : Said) where
  item_faultless : (count : ℕ) (text : Option (List ℕ)) (k : Key) (rest : List Item)
      → first_fault count (option_map_or (λ value. Setting (key_name k) value ∷ []) text [] ++ rest)
      ≡ first_fault count rest
  unfolding first_fault
  item_faultless count None k rest = refl
  item_faultless count (Some value) k rest = refl

  keys_faultless : (count : ℕ) (keys : List Key) → first_fault count (flat_map (said_item said) keys) ≡ None
  unfolding first_fault
  keys_faultless count [] = refl
  keys_faultless count (k ∷ keys) = grind (arith, item_faultless, keys_faultless count keys)

  item_uncounted : (text : Option (List ℕ)) (k : Key) (rest : List Item)
      → include_count (option_map_or (λ value. Setting (key_name k) value ∷ []) text [] ++ rest) ≡ include_count rest
  unfolding include_count
  item_uncounted None k rest = refl
  item_uncounted (Some value) k rest = refl

  keys_uncounted : (keys : List Key) → include_count (flat_map (said_item said) keys) ≡ 0
  unfolding include_count
  keys_uncounted [] = refl
  keys_uncounted (k ∷ keys) = item_uncounted (text_of said k) k (flat_map (said_item said) keys) ∙ keys_uncounted keys

  pub said_faultless : (count : ℕ) → first_fault count (said_items said) ≡ None
  said_faultless count = keys_faultless count all_keys

  pub said_uncounted : include_count (said_items said) ≡ 0
  said_uncounted = keys_uncounted all_keys

-- reading goes on over what is said
pub read_said : (said : Said) (old new : Reading) → new.includes ≡ old.includes
    → SaysOn (said_items said) old.said new.said → ReadOn (said_items said) old new
read_said said old new same says = grind (arith, said_faultless, said_uncounted)

-- nothing is said
pub nothing_said : (said : Said) → ((k : Key) → text_of said k ≡ None) → said_items said ≡ []
nothing_said said nothing = by all_keys
  where
    by : (keys : List Key) → flat_map (said_item said) keys ≡ []
    by [] = refl
    by (k ∷ keys) = rw (nothing k) (by keys)

-- ---- what they say last of each key

-- of a key that is listed: what is said of it, or else what was said before
module _ (said : Said) (k : Key) where
  abbrev over : Option (List ℕ) → Option (List ℕ) → Option (List ℕ)
  over text before = option_map_or (λ value. Some value) text before

  own_last : (text before : Option (List ℕ)) (rest : List Item) → text ≡ text_of said k
      → last_said (key_name k) before (option_map_or (λ value. Setting (key_name k) value ∷ []) text [] ++ rest)
      ≡ last_said (key_name k) (over text before) rest
  unfolding last_said
  own_last None before rest e = refl
  own_last (Some value) before rest e = grind (arith, nat_tests, named, known)

  other_last : (j : Key) (text before : Option (List ℕ)) (rest : List Item) → eqb (key_place j) (key_place k) ≡ false
      → last_said (key_name k) before (option_map_or (λ value. Setting (key_name j) value ∷ []) text [] ++ rest)
      ≡ last_said (key_name k) before rest
  unfolding last_said
  other_last j None before rest e = refl
  other_last j (Some value) before rest e = rw (named (key_name j) j k (known j), e) refl

  over_twice : (text before : Option (List ℕ)) → over text (over text before) ≡ over text before
  over_twice None before = refl
  over_twice (Some value) before = refl

  abbrev has : List Key → Bool
  has [] = false
  has (j ∷ keys) = cond (eqb (key_place j) (key_place k)) true (has keys)

  by_key : (j : Key) (keys : List Key) (t : Bool) → eqb (key_place j) (key_place k) ≡ t
      → ((before : Option (List ℕ))
      → last_said (key_name k) before (flat_map (said_item said) keys)
      ≡ cond (has keys) (over (text_of said k) before) before)
      → (before : Option (List ℕ))
      → last_said (key_name k) before (said_item said j ++ flat_map (said_item said) keys)
      ≡ cond (cond t true (has keys)) (over (text_of said k) before) before
  by_key j keys true e rest before =
      let same : j ≡ k = same_key j k (eqb-true _ _ e) in
      rw (
        same,
        own_last (text_of said k) before (flat_map (said_item said) keys) refl,
        rest
            (over (text_of said k) before),
        over_twice (text_of said k) before,
      )
      (by_has (has keys))
    where
      by_has : (t : Bool)
          → cond t (over (text_of said k) before) (over (text_of said k) before) ≡ over (text_of said k) before
      by_has true = refl
      by_has false = refl
  by_key j keys false e rest before = grind (arith, other_last)

  last_keys : (keys : List Key) (before : Option (List ℕ))
      → last_said (key_name k) before (flat_map (said_item said) keys)
      ≡ cond (has keys) (over (text_of said k) before) before
  unfolding last_said
  last_keys [] before = refl
  last_keys (j ∷ keys) before = by_key j keys (eqb (key_place j) (key_place k)) refl (last_keys keys) before

has_all : (said : Said) (k : Key) → has said k all_keys ≡ true
has_all said key.LastStage = refl
has_all said _ = refl

-- what they say last of a key is what is said of it, or else what was said before
last_is : (said : Said) (k : Key) (before : Option (List ℕ))
    → last_said (key_name k) before (said_items said) ≡ over said k (text_of said k) before
last_is said k before = last_keys said k all_keys before ∙ rw (has_all said k) refl

-- ---- a setting after them

after_setting : (name value : List ℕ) (old new : Said) (k : Key) (before : Option (List ℕ)) (t : Bool)
    → bytes_eq name (key_name k) ≡ t → text_of new k ≡ cond t (Some value) (text_of old k)
    → cond t (Some value) (over old k (text_of old k) before) ≡ over new k (text_of new k) before
after_setting name value old new k before true e f = rw f refl
after_setting name value old new k before false e f = rw f refl

-- is read like what is said with it
pub setting_alike : (name value : List ℕ) (old new : Said) (rest : List Item) → SaysOn (Setting name value ∷ []) old new
    → Alike (said_items old ++ Setting name value ∷ rest) (said_items new ++ rest)
unfolding first_fault include_count last_said
setting_alike name value old new rest says = record {
  same = λ count. first_fault-further count (said_items old) (Setting name value ∷ rest) (said_faultless old count)
      ∙ ap (λ n. first_fault (count + n) rest) (said_uncounted old ∙ sym (said_uncounted new))
      ∙ sym (first_fault-further count (said_items new) rest (said_faultless new count));
  counts = λ count none. include_count-append (said_items old) (Setting name value ∷ rest)
      ∙ ap (λ n. n + include_count rest) (said_uncounted old ∙ sym (said_uncounted new))
      ∙ sym (include_count-append (said_items new) rest);
  says = λ count none k before.
      rw (
        last_said-append (key_name k) before (said_items old) (Setting name value ∷ rest),
        last_said-append
            (key_name k) before (said_items new) rest,
        last_is old k before,
        last_is new k before,
      )
      (ap (λ text. last_said (key_name k) text rest)
      (after_setting name value old new k before (bytes_eq name (key_name k)) refl (says k)));
}
