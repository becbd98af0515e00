-- The ids of words, one after the other.
use Rattle.plan_num.proofs.Common.{◌≡◌, ℕ, ℤ, ◌+◌, ◌<◌, ◌≤◌, List, [], ◌∷◌, ◌++◌, length, map, drop}
use Rattle.plan_num.proofs.Common.{Option, Some, None, option_map, string_bytes, refl, ap, sym, ◌∙◌}
use Rattle.plan_num.proofs.Common.{arith, slice_index_or, at_drop_more, Bool, true, false, not}
use Rattle.plan_num.proofs.Common.{◌||◌, ◌⊎◌, ⊎_elim, nat_le, option_and_then, suc, length-map}
use Rattle.plan_num.proofs.Common.{AllByRecursion, list_any, int_eq, and_parts, false≢true, lt-leb}
use Rattle.plan_num.proofs.Common.{true≢false, not-true}
use Rattle.std.specs.declared.alloc.Global.{Global}
use Rattle.std.specs.declared.string.String.{String}
use Rattle.std.specs.List.{IsDistinct}
use Rattle.plan_num.specs.Terminals.{AreTerminals}
use Rattle.command_line.specs.FormWords.{are_apart, id_in, ids_in, pool_form, sized_form, with_id}

-- the ids of words that are left
abbrev ids_left : List (String Global) → Option (List ℤ)
ids_left words = ids_in (map string_bytes words)

-- all ids are those so far, and then those of the words that are left
abbrev pub IsIds : List (String Global) → List ℤ → List (String Global) → Type 0
IsIds words ids left = ids_left words ≡ option_map (λ more. ids ++ more) (ids_left left)

module _ (words : List (String Global)) (i : ℕ) (word : String Global) (ids : List ℤ) (inside : i < length words) (is : word ≡ slice_index_or words i word) (so_far : IsIds words ids (drop i words)) where
  next_left : ids_left words ≡ option_map (λ more. ids ++ more) (with_id (id_in (string_bytes word)) (ids_left (drop (i + 1) words)))
  next_left =
      so_far ∙ at_drop_more (λ left. option_map (λ more. ids ++ more) (ids_left left)) words i word inside
      ∙ ap (λ word. option_map (λ more. ids ++ more) (with_id (id_in (string_bytes word)) (ids_left (drop (i + 1) words)))) (sym is)

-- three words after the first are no form
pub none_of_three : (first : List ℕ) (words : List (String Global)) → 3 ≤ length words
    → length words < 4 → None ≡ sized_form first (map string_bytes words)
none_of_three first [] low high = absurd (omega (arith, low))
none_of_three first (a ∷ []) low high = absurd (omega (arith, low))
none_of_three first (a ∷ b ∷ []) low high = absurd (omega (arith, low))
none_of_three first (a ∷ b ∷ c ∷ []) low high = refl
none_of_three first (a ∷ b ∷ c ∷ d ∷ more) low high = absurd (omega (arith, high))

-- ids that are apart are distinct
none_alike : (id : ℤ) (ids : List ℤ) → list_any (int_eq id) ids ≡ false
    → AllByRecursion (λ other. int_eq id other ≡ false) ids
none_alike id [] h = tt
none_alike id (other ∷ ids) h = by (int_eq id other) refl h (none_alike id ids)
  where
    by : (same : Bool) → int_eq id other ≡ same → (same || list_any (int_eq id) ids) ≡ false
        → (list_any (int_eq id) ids ≡ false → AllByRecursion (λ other. int_eq id other ≡ false) ids)
        → (int_eq id other ≡ false) × AllByRecursion (λ other. int_eq id other ≡ false) ids
    by true is h rest = absurd (true≢false h)
    by false is h rest = (is, rest h)

apart_distinct : (ids : List ℤ) → are_apart ids ≡ true → IsDistinct int_eq ids
unfolding IsDistinct
apart_distinct [] h = tt
apart_distinct (id ∷ ids) h =
    let parts = and_parts _ _ h in
    (none_alike id ids (not-true _ parts.0), apart_distinct ids parts.1)

-- 2 to 20 ids that are apart are terminals
pub apart_terminals : (ids : List ℤ) → 2 ≤ length ids → length ids ≤ 20 → are_apart ids ≡ true
    → AreTerminals ids
apart_terminals ids some few apart =
    record { some = some; few = few; apart = apart_distinct ids apart }

-- there are as many ids as words
ids_count : (words : List (List ℕ)) (ids : List ℤ) → ids_in words ≡ Some ids → length ids ≡ length words
ids_count [] ids is = let same : [] ≡ ids = cc in ap length (sym same)
ids_count (word ∷ words) ids is = by (id_in word) (ids_in words) (ids_count words) is
  where
    by : (id : Option ℤ) (told : Option (List ℤ))
        → ((more : List ℤ) → told ≡ Some more → length more ≡ length words)
        → with_id id told ≡ Some ids → length ids ≡ length (word ∷ words)
    by None told count is = absurd (cc)
    by (Some id) None count is = absurd (cc)
    by (Some id) (Some more) count is =
        let same : id ∷ more ≡ ids = cc in
        sym (ap length same) ∙ ap suc (count more refl)

-- too few words or too many are no pool
pub no_pool : (words : List (String Global)) → (length words < 2) ⊎ (20 < length words)
    → None ≡ pool_form (map string_bytes words)
no_pool words out = grind (
  arith,
  string_bytes,
  length-map,
  ⊎_elim,
  lt-leb,
  nat_le,
  option_and_then,
  ids_count,
)
