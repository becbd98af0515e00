-- The text of settings tells them, among those that fit a stage.
use Rattle.plan_num.proofs.Common.{◌≡◌, ℕ, ℤ, ◌+◌, ◌<◌, ◌≤◌, ◌≤ℤ◌, ◌&&◌, ◌||◌, Bool, true, false}
use Rattle.plan_num.proofs.Common.{not, eqb, List, [], ◌∷◌, ◌++◌, length, map, take, drop, get_or}
use Rattle.plan_num.proofs.Common.{cond, zero, suc, pos, negsuc, neg_ℤ, true≢false, refl, ap, sym}
use Rattle.plan_num.proofs.Common.{subst, ◌∙◌, arith, codes, Option, Some, None, IfSome, int_le}
use Rattle.plan_num.proofs.Common.{append-nil, append_assoc, flat_map, list_all, list_any, bytes_eq}
use Rattle.plan_num.proofs.Common.{signed_decimal, and_parts, eq-eqb, eqb-true, not-true, or_parts}
use Rattle.plan_num.proofs.Common.{nat_tests, flat_map-append, ints, append_cancel_left, take_all}
use Rattle.plan_num.proofs.Common.{take_more, same_Some, bytes_eq-Decides}
use Rattle.std.proofs.lemmas.Map.Views.{any-filter_same}
use Rattle.plan_num.specs.Number.{is_number_byte}
use Rattle.plan_num.specs.Print.{fixed_text}
use Rattle.plan_num.proofs.ReadBack.{whole_back, fixed_back, whole_bytes, fixed_bytes}
use Rattle.giv_files.specs.declared.key.Key.{Key}
use Rattle.giv_files.specs.declared.key.Key.TheVariants as key
use Rattle.giv_files.specs.declared.key_kind.KeyKind.{KeyKind}
use Rattle.giv_files.specs.declared.key_kind.KeyKind.TheVariants as kind
use Rattle.giv_files.specs.declared.setting.Setting.{Setting}
use Rattle.giv_files.specs.declared.stage.Stage.{Stage}
use Rattle.giv_files.specs.declared.stage.Stage.TheVariants as stage
use Rattle.giv_files.specs.KeyKinds.{all_word, greatest, least, none_word, spelled_as, wait_of}
use Rattle.giv_files.specs.Keys.{all_keys, allows, has_key, is_key, key_kind, key_name, stage_keys}
use Rattle.giv_files.specs.Settings.{SettingsFit, is_allowed, value_of}
use Rattle.giv_files.specs.SettingsText.{TellsSettings, key_line, settings_text, value_text, wait_text}
use Rattle.tables.proofs.Common.{IsSmall, number_plain, all_weaker, is_plain, plain_is}
use Rattle.giv_files.proofs.KeyPlaces.{same_key}
use Rattle.giv_files.proofs.SettingFacts.{among_all, key_there, value_allowed}

-- one key more adds its line
pub one_key_more : (line : Key → List ℕ) (keys : List Key) (i : ℕ) (d : Key) → i < length keys
    → flat_map line (take (i + 1) keys) ≡ flat_map line (take i keys) ++ line (get_or keys i d)
one_key_more line keys i d inside =
    ap (flat_map line) (take_more keys i d inside)
    ∙ flat_map-append line (take i keys) (get_or keys i d ∷ [])
    ∙ ap (λ more. flat_map line (take i keys) ++ more) (append-nil (line (get_or keys i d)))

-- the value of a key is one that it may have
pub value_fits : (settings : List Setting) (k : Key) → list_all is_allowed settings ≡ true
    → IfSome (value_of settings k) (λ value. allows k value ≡ true)
value_fits settings k all = grind (arith, value_allowed)

-- ---- the text of a value spells it

-- a value that is in reach of what a field can spell
abbrev IsInReach : ℤ → Type 0
IsInReach value = (neg_ℤ (pos 1000000000000000000) ≤ℤ value) × (value ≤ℤ pos 1000000000000000000)

kind_small : (k : Key) → IsSmall (least (key_kind k)) (greatest (key_kind k))
kind_small key.LastStage = (omega (arith, ints), omega (arith, ints))
kind_small _ = (omega (arith, ints), omega (arith, ints))

-- text of the bytes of numbers is no word
no_word : (text word : List ℕ) → list_all is_number_byte text ≡ true
    → list_all is_number_byte word ≡ false → bytes_eq text word ≡ false
no_word text word all none = grind (arith, bytes_eq-Decides)

not_negative : (n : ℕ) → int_le (pos 0) (pos n) ≡ true
not_negative n = grind (arith, ints, nat_tests)

wait_back : (value : ℤ) → IsInReach value → negsuc 1 ≤ℤ value
    → wait_of (wait_text value) ≡ Some value
wait_back (pos n) reach low =
    let number = whole_bytes (pos n) reach.0 reach.1 in
    rw (no_word (signed_decimal (pos n)) all_word number refl, no_word (signed_decimal (pos n)) none_word number refl)
    (rw (whole_back (pos n) reach.0 reach.1) (rw (not_negative n) refl))
wait_back (negsuc zero) reach low = refl
wait_back (negsuc (suc zero)) reach low = refl
wait_back (negsuc (suc (suc n))) reach low = absurd (omega (arith, ints))

module _ (k : KeyKind) (value : ℤ) (low : least k ≤ℤ value) (high : value ≤ℤ greatest k)
    (small : IsSmall (least k) (greatest k)) where
  in_reach : IsInReach value
  in_reach = (omega (arith, ints), omega (arith, ints))

-- a value of a kind is what its text spells
value_back : (k : KeyKind) (value : ℤ) → least k ≤ℤ value → value ≤ℤ greatest k
    → IsSmall (least k) (greatest k) → spelled_as k (value_text k value) ≡ Some value
unfolding value_text
value_back (kind.Whole min max) value low high small = grind (arith, in_reach, whole_back)
value_back (kind.Fixed min max) value low high small = grind (arith, in_reach, fixed_back)
value_back (kind.Word table) value low high small = grind arith
value_back (kind.Wait max) value low high small =
    wait_back value (in_reach (kind.Wait max) value low high small) low

-- and that text is one of plain bytes
wait_plain : (value : ℤ) → IsInReach value → list_all is_plain (wait_text value) ≡ true
wait_plain (pos n) reach =
    all_weaker is_number_byte is_plain (signed_decimal (pos n)) number_plain
    (whole_bytes (pos n) reach.0 reach.1)
wait_plain (negsuc zero) reach = refl
wait_plain (negsuc (suc n)) reach = refl

value_plain : (k : KeyKind) (value : ℤ) → least k ≤ℤ value → value ≤ℤ greatest k
    → IsSmall (least k) (greatest k) → list_all is_plain (value_text k value) ≡ true
unfolding value_text
value_plain (kind.Whole min max) value low high small =
    let reach = in_reach (kind.Whole min max) value low high small in
    all_weaker is_number_byte is_plain (signed_decimal value) number_plain
    (whole_bytes value reach.0 reach.1)
value_plain (kind.Fixed min max) value low high small =
    let reach = in_reach (kind.Fixed min max) value low high small in
    all_weaker is_number_byte is_plain (fixed_text value) number_plain
    (fixed_bytes value reach.0 reach.1)
value_plain (kind.Word table) value low high small = grind arith
value_plain (kind.Wait max) value low high small =
    wait_plain value (in_reach (kind.Wait max) value low high small)

-- ---- lines of keys are told apart

head_of : (x y : ℕ) (xs ys : List ℕ) → x ∷ xs ≡ y ∷ ys → x ≡ y
head_of x y xs ys e = ap (λ (all : List ℕ). get_or all 0 0) e

rest_of : (x y : ℕ) (xs ys : List ℕ) → x ∷ xs ≡ y ∷ ys → xs ≡ ys
rest_of x y xs ys e = ap (λ (all : List ℕ). drop 1 all) e

feed_not_plain : (x : ℕ) → x ≡ 10 → is_plain x ≡ true → ⊥
feed_not_plain x is plain =
    true≢false (sym (ap (λ byte. eqb byte 10) is) ∙ (plain_is x plain).1)

-- plain texts that end at a line feed
ended : (xs ys a b : List ℕ) → list_all is_plain xs ≡ true → list_all is_plain ys ≡ true
    → xs ++ 10 ∷ a ≡ ys ++ 10 ∷ b → (xs ≡ ys) × (a ≡ b)
ended [] [] a b p q e = (refl, rest_of 10 10 a b e)
ended [] (y ∷ ys) a b p q e =
    absurd (feed_not_plain y (sym (head_of 10 y a (ys ++ 10 ∷ b) e)) (and_parts _ _ q).0)
ended (x ∷ xs) [] a b p q e =
    absurd (feed_not_plain x (head_of x 10 (xs ++ 10 ∷ a) b e) (and_parts _ _ p).0)
ended (x ∷ xs) (y ∷ ys) a b p q e =
    let more = ended xs ys a b (and_parts (is_plain x) (list_all is_plain xs) p).1
    (and_parts (is_plain y) (list_all is_plain ys) q).1
    (rest_of x y (xs ++ 10 ∷ a) (ys ++ 10 ∷ b) e) in grind (arith, head_of)

regrouped : (front text a : List ℕ) → ((front ++ text) ++ 10 ∷ []) ++ a ≡ front ++ (text ++ 10 ∷ a)
regrouped front text a =
    append_assoc (front ++ text) (10 ∷ []) a ∙ append_assoc front text (10 ∷ a)

-- the bounds of a value that its key may have
bounds_of : (k : Key) (value : ℤ) → allows k value ≡ true
    → (least (key_kind k) ≤ℤ value) × (value ≤ℤ greatest (key_kind k))
bounds_of k value is = grind arith

line_told : (k : Key) (value other : ℤ) (a b : List ℕ) → allows k value ≡ true
    → allows k other ≡ true → key_line k (Some value) ++ a ≡ key_line k (Some other) ++ b
    → (value ≡ other) × (a ≡ b)
line_told k value other a b is also e =
    let front = key_name k ++ codes "; " in
    let own = value_text (key_kind k) value in
    let its = value_text (key_kind k) other in
    let low = bounds_of k value is in
    let high = bounds_of k other also in
    let both = ended own its a b
    (value_plain (key_kind k) value low.0 low.1 (kind_small k))
    (value_plain (key_kind k) other high.0 high.1 (kind_small k))
    (append_cancel_left front (own ++ 10 ∷ a) (its ++ 10 ∷ b)
    (sym (regrouped front own a) ∙ e ∙ regrouped front its b)) in (
      same_Some value other
          (sym (value_back (key_kind k) value low.0 low.1 (kind_small k))
          ∙ ap (spelled_as (key_kind k)) both.0
          ∙ value_back (key_kind k) other high.0 high.1 (kind_small k)),
      both.1,
    )

-- two look-ups of a key find both nothing, or both a value that the key may have
abbrev FindAlike : Key → Option ℤ → Option ℤ → Type 0
FindAlike k None None = Unit {0}
FindAlike k (Some value) (Some other) = (allows k value ≡ true) × (allows k other ≡ true)
FindAlike k None (Some other) = ⊥
FindAlike k (Some value) None = ⊥

found_told : (k : Key) (found other : Option ℤ) (a b : List ℕ) → FindAlike k found other
    → key_line k found ++ a ≡ key_line k other ++ b → (found ≡ other) × (a ≡ b)
found_told k None None a b alike e = (refl, e)
found_told k None (Some other) a b alike e = absurd alike
found_told k (Some value) None a b alike e = absurd alike
found_told k (Some value) (Some other) a b alike e =
    let both = line_told k value other a b alike.0 alike.1 e in (ap Some both.0, both.1)

module _ (f g : Key → Option ℤ) (alike : (k : Key) → FindAlike k (f k) (g k)) where
  lines_told : (keys : List Key)
      → flat_map (λ k. key_line k (f k)) keys ≡ flat_map (λ k. key_line k (g k)) keys
      → (k : Key) → list_any (is_key k) keys ≡ true → f k ≡ g k
  lines_told [] e k some = absurd (true≢false (sym some))
  lines_told (j ∷ keys) e k some =
      let both = found_told j (f j) (g j) (flat_map (λ k. key_line k (f k)) keys)
      (flat_map (λ k. key_line k (g k)) keys) (alike j) e in
      by (is_key k j) refl both.0 (lines_told keys both.1 k)
    where
      by : (b : Bool) → is_key k j ≡ b → f j ≡ g j
          → (list_any (is_key k) keys ≡ true → f k ≡ g k) → f k ≡ g k
      by true own first rest = subst (λ k. f k ≡ g k) (same_key j k (eqb-true _ _ own)) first
      by false other first rest =
          rest (sym (ap (λ b. b || list_any (is_key k) keys) other) ∙ some)

-- ---- settings by the values of their keys

abbrev keys_of : List Setting → List Key
keys_of settings = map (λ setting. setting.key) settings

first_or : (k : Key) (first : Setting) (rest : List Setting) (b : Bool) → is_key k first.key ≡ b
    → value_of (first ∷ rest) k ≡ cond b (Some first.value) (value_of rest k)
first_or k first rest true is = grind arith
first_or k first rest false is = grind arith

-- a key that is not among those of settings has no value
value_none : (settings : List Setting) (k : Key) → list_any (is_key k) (keys_of settings) ≡ false
    → value_of settings k ≡ None
value_none [] k none = refl
value_none (first ∷ rest) k none =
    let both = or_parts (is_key k first.key) (list_any (is_key k) (keys_of rest)) none in
    first_or k first rest false both.0 ∙ value_none rest k both.1

-- no key stands twice
apart : List Key → Bool
apart [] = true
apart (k ∷ keys) = not (list_any (is_key k) keys) && apart keys

same_settings : (settings others : List Setting) → keys_of settings ≡ keys_of others
    → apart (keys_of settings) ≡ true → ((k : Key) → value_of settings k ≡ value_of others k)
    → settings ≡ others
unfolding apart
same_settings [] [] keys once same = refl
same_settings [] (o ∷ os) keys once same =
    absurd (omega (arith, ap (λ (l : List Key). length l) keys))
same_settings (s ∷ ss) [] keys once same =
    absurd (omega (arith, ap (λ (l : List Key). length l) keys))
same_settings (s ∷ ss) (o ∷ os) keys once same =
    let key : s.key ≡ o.key = ap (λ (l : List Key). get_or l 0 s.key) keys in
    let rest : keys_of ss ≡ keys_of os = ap (λ (l : List Key). drop 1 l) keys in
    let own : is_key s.key s.key ≡ true = eq-eqb _ _ refl in
    let its : is_key s.key o.key ≡ true = subst (λ k. is_key s.key k ≡ true) key own in
    let parts = and_parts (not (list_any (is_key s.key) (keys_of ss))) (apart (keys_of ss)) once in
    let none = not-true (list_any (is_key s.key) (keys_of ss)) parts.0 in
    let value : s.value ≡ o.value = same_Some s.value o.value
    (sym (first_or s.key s ss true own) ∙ same s.key ∙ first_or s.key o os true its) in
    let more = same_settings ss os rest parts.1 (λ k. by k key rest none (is_key k s.key) refl (same k)) in
    λ i. record { key = key i; value = value i } ∷ more i
  where
    by : (k : Key) → s.key ≡ o.key → keys_of ss ≡ keys_of os
        → list_any (is_key s.key) (keys_of ss) ≡ false → (b : Bool) → is_key k s.key ≡ b
        → value_of (s ∷ ss) k ≡ value_of (o ∷ os) k → value_of ss k ≡ value_of os k
    by k key rest none true is e = subst (λ k. value_of ss k ≡ value_of os k)
        (same_key s.key k (eqb-true _ _ is))
        (value_none ss s.key none
        ∙ sym (value_none os s.key (ap (list_any (is_key s.key)) (sym rest) ∙ none)))
    by k key rest none false is e = grind arith

-- ---- settings that fit one stage

stage_apart : (at : Stage) → apart (stage_keys at) ≡ true
unfolding stage_keys apart
stage_apart stage.Load = refl
stage_apart _ = refl

key_lacking : (at : Stage) (k : Key) → has_key at k ≡ false
    → list_any (is_key k) (stage_keys at) ≡ false
unfolding stage_keys
key_lacking at k lacks =
    any-filter_same (is_key k) (has_key at) false
    (λ j same. subst (λ other. has_key at other ≡ false)
    (sym (same_key j k (eqb-true _ _ same))) lacks) all_keys

module _ (at : Stage) (settings others : List Setting) (fits : SettingsFit at settings)
    (also : SettingsFit at others) where
  find_alike : (k : Key) → FindAlike k (value_of others k) (value_of settings k)
  find_alike k = by (has_key at k) refl
    where
      by : (b : Bool) → has_key at k ≡ b
          → FindAlike k (value_of others k) (value_of settings k)
      by true has =
          let own = key_there at settings k fits has in
          let its = key_there at others k also has in
          rw (own.1, its.1) (its.2, own.2)
      by false lacks =
          let none = key_lacking at k lacks in
          rw (
            value_none settings k (ap (list_any (is_key k)) fits.keys ∙ none),
            value_none others k (ap (list_any (is_key k)) also.keys ∙ none),
          ) tt

  told_by_text : settings_text others ≡ settings_text settings → others ≡ settings
  unfolding settings_text
  told_by_text same =
      same_settings others settings (also.keys ∙ sym fits.keys)
      (ap apart also.keys ∙ stage_apart at)
      (λ k. lines_told (value_of others) (value_of settings) find_alike all_keys same k
      (among_all k))

-- so the text of settings tells them
pub text_tells : (settings : List Setting) (text : List ℕ) → text ≡ settings_text settings
    → TellsSettings settings text
text_tells settings text is at others fits also same =
    told_by_text at settings others fits also (same ∙ is)

-- the lines of all keys are the text
pub all_lines : (settings : List Setting) (keys : List Key) (i : ℕ) (bytes : List ℕ)
    → keys ≡ all_keys → length keys ≤ i
    → bytes ≡ flat_map (λ k. key_line k (value_of settings k)) (take i keys)
    → bytes ≡ settings_text settings
unfolding settings_text
all_lines settings keys i bytes all past is =
    is ∙ ap (flat_map (λ k. key_line k (value_of settings k))) (take_all i keys past ∙ all)
