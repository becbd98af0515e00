-- A stable sort by keys puts items one group after the other.
use Rattle.plan_num.proofs.Common.{◌≡◌, suc, ℤ, pos, ◌+◌, Bool, true, false, ◌||◌, cond, List, []}
use Rattle.plan_num.proofs.Common.{inl, inr, ◌∷◌, ◌++◌, length, map, filter, get_or, All, refl, ap}
use Rattle.plan_num.proofs.Common.{subst, sym, ◌∙◌, arith, AllByRecursion, flat_map, list_any}
use Rattle.plan_num.proofs.Common.{keys_of, int_cmp, int_eq, is_lt, ordering_reverse, put, by_order}
use Rattle.plan_num.proofs.Common.{ne_eqb, cases_Bool, int_cmp_total, int_eq_equiv, length-append}
use Rattle.plan_num.proofs.Common.{All-map, exact_signed}
use Rattle.std.specs.List.Sorted.{IsSortedByKey, IsStableByKey, IsStrictlySortedBy, ties}
use Rattle.std.specs.declared.cmp.Ordering.{Ordering}
use Rattle.std.specs.declared.cmp.Ordering.TheVariants.{Less, Equal, Greater}
use Rattle.std.proofs.lemmas.List.Sorted.{ranks_by, sorted_far}
use Rattle.walks.proofs.Common.{rising, rising_rises, all_rising, apart, rising_has, same_rising}
use Rattle.walks.proofs.Common.{tied, units}
use Rattle.walks.specs.RisingIds.{by_id}
use Rattle.line_search.specs.Judged.{has_some}
use Rattle.line_search.specs.PoolPlaces.{grouped}

module _ {X : Type 0} (key : X → ℤ) where
  abbrev with_key : List X → ℤ → List X
  with_key items id = filter (λ item. int_eq id (key item)) items

  none_with : (q : ℤ) (items : List X) → list_any (int_eq q) (map key items) ≡ false
      → with_key items q ≡ []
  none_with q [] e = refl
  none_with q (item ∷ items) e = elim (cases_Bool (int_eq q (key item))) [
    | inl is ↦ absurd (let f = rw is at e in cc)
    | inr is ↦ rw is (none_with q items (rw is at e))
  ]

  -- an item with another key changes no group
  others : (item : X) (items : List X) (ids : List ℤ)
      → AllByRecursion (λ id. int_eq id (key item) ≡ false) ids
      → flat_map (with_key (item ∷ items)) ids ≡ flat_map (with_key items) ids
  others item items [] apart = refl
  others item items (id ∷ ids) apart = grind (arith, apart, others item items ids apart.1)

  all_above : (low id : ℤ) (ids : List ℤ) → int_cmp low id ≡ Less
      → AllByRecursion (λ other. int_cmp id other ≡ Less) ids
      → AllByRecursion (λ other. int_cmp low other ≡ Less) ids
  all_above low id [] first rest = tt
  all_above low id (other ∷ ids) first rest =
      (int_cmp_total.trans low id other first rest.0, all_above low id ids first rest.1)

  all_apart : (low : ℤ) (ids : List ℤ) → AllByRecursion (λ other. int_cmp low other ≡ Less) ids
      → AllByRecursion (λ id. int_eq id low ≡ false) ids
  all_apart low [] above = tt
  all_apart low (id ∷ ids) above = ((apart low id above.0).1, all_apart low ids above.1)

  not_among : (low : ℤ) (ids : List ℤ) → AllByRecursion (λ other. int_cmp low other ≡ Less) ids
      → list_any (int_eq low) ids ≡ false
  not_among low [] above = refl
  not_among low (id ∷ ids) above =
      ap (λ b. b || list_any (int_eq low) ids) (apart low id above.0).0 ∙ not_among low ids above.1

  same_id : (id : ℤ) → int_eq id id ≡ true
  same_id id = int_eq_equiv.refl id

  -- one item more in front, whose key is not above the others
  step : (item : X) (items : List X) (es : List (ℤ × Unit {0}))
      → All (λ id. is_lt (int_cmp id (key item)) ≡ false) (keys_of es)
      → IsStrictlySortedBy int_cmp (keys_of es)
      → list_any (int_eq (key item)) (map key items) ≡ list_any (int_eq (key item)) (keys_of es)
      → flat_map (with_key items) (keys_of es) ≡ items
      → flat_map (with_key (item ∷ items)) (keys_of (put int_cmp (key item) tt es)) ≡ item ∷ items
  unfolding IsStrictlySortedBy
  step item items [] low rise has whole = grind arith
  step item items (e ∷ es) low rise has whole = by (int_cmp (key item) e.0) refl
    where
      by : (o : Ordering) → int_cmp (key item) e.0 ≡ o
          → flat_map (with_key (item ∷ items)) (keys_of
          (by_order o ((key item, tt {0}) ∷ e ∷ es) ((e.0, tt) ∷ es)
          (e ∷ put int_cmp (key item) tt es)))
          ≡ item ∷ items
      by Less is =
          let above : AllByRecursion (λ other. int_cmp (key item) other ≡ Less) (e.0 ∷ keys_of es) =
          (is, all_above (key item) e.0 (keys_of es) is rise.0) in
          ap (λ b. cond b (item ∷ with_key items (key item)) (with_key items (key item))
          ++ flat_map (with_key (item ∷ items)) (e.0 ∷ keys_of es)) (same_id (key item))
          ∙ ap (λ some. (item ∷ some) ++ flat_map (with_key (item ∷ items)) (e.0 ∷ keys_of es))
          (none_with (key item) items (has ∙ not_among (key item) (e.0 ∷ keys_of es) above))
          ∙ ap (λ some. item ∷ some) (others item items (e.0 ∷ keys_of es)
          (all_apart (key item) (e.0 ∷ keys_of es) above) ∙ whole)
      by Equal is =
          let same : key item ≡ e.0 = exact_signed (key item) e.0 is in
          let above : AllByRecursion (λ id. int_eq id (key item) ≡ false) (keys_of es) =
          subst (λ (id : ℤ). AllByRecursion (λ other. int_eq other id ≡ false) (keys_of es))
          (sym same) (all_apart e.0 (keys_of es) rise.0) in
          ap (λ b. cond b (item ∷ with_key items e.0) (with_key items e.0)
          ++ flat_map (with_key (item ∷ items)) (keys_of es))
          (ap (int_eq e.0) same ∙ same_id e.0)
          ∙ ap (λ rest. (item ∷ with_key items e.0) ++ rest) (others item items (keys_of es) above)
          ∙ ap (λ some. item ∷ some) whole
      by Greater is =
          let under : is_lt (int_cmp e.0 (key item)) ≡ true =
          ap is_lt (int_cmp_total.antisymm e.0 (key item))
          ∙ ap (λ o. is_lt (ordering_reverse o)) is in
          let not_under : is_lt (int_cmp e.0 (key item)) ≡ false = low 0 (pos 0) (omega arith) in
          absurd (cc)

  -- one item more is in one group, whose key is new or not
  step_count : (item : X) (items : List X) (es : List (ℤ × Unit {0}))
      → IsStrictlySortedBy int_cmp (keys_of es)
      → (list_any (int_eq (key item)) (keys_of es) ≡ false → with_key items (key item) ≡ [])
      → length (flat_map (with_key (item ∷ items)) (keys_of (put int_cmp (key item) tt es)))
      ≡ suc (length (flat_map (with_key items) (keys_of es)))
  unfolding IsStrictlySortedBy
  step_count item items [] rise none = grind arith
  step_count item items (e ∷ es) rise none = by (int_cmp (key item) e.0) refl
      (step_count item items es rise.1)
    where
      by : (o : Ordering) → int_cmp (key item) e.0 ≡ o
          → ((list_any (int_eq (key item)) (keys_of es) ≡ false → with_key items (key item) ≡ [])
          → length (flat_map (with_key (item ∷ items)) (keys_of (put int_cmp (key item) tt es)))
          ≡ suc (length (flat_map (with_key items) (keys_of es))))
          → length (flat_map (with_key (item ∷ items))
          (keys_of (by_order o ((key item, tt {0}) ∷ e ∷ es) ((e.0, tt) ∷ es)
          (e ∷ put int_cmp (key item) tt es))))
          ≡ suc (length (flat_map (with_key items) (e.0 ∷ keys_of es)))
      by Less is more =
          let above : AllByRecursion (λ other. int_cmp (key item) other ≡ Less) (e.0 ∷ keys_of es) =
          (is, all_above (key item) e.0 (keys_of es) is rise.0) in
          ap (λ b. length (cond b (item ∷ with_key items (key item)) (with_key items (key item))
          ++ flat_map (with_key (item ∷ items)) (e.0 ∷ keys_of es))) (same_id (key item))
          ∙ ap (λ some. length ((item ∷ some)
          ++ flat_map (with_key (item ∷ items)) (e.0 ∷ keys_of es)))
          (none (not_among (key item) (e.0 ∷ keys_of es) above))
          ∙ ap (λ some. suc (length some))
          (others item items (e.0 ∷ keys_of es) (all_apart (key item) (e.0 ∷ keys_of es) above))
      by Equal is more =
          let same : key item ≡ e.0 = exact_signed (key item) e.0 is in
          let above : AllByRecursion (λ id. int_eq id (key item) ≡ false) (keys_of es) =
          subst (λ (id : ℤ). AllByRecursion (λ other. int_eq other id ≡ false) (keys_of es))
          (sym same)
          (all_apart e.0 (keys_of es) rise.0) in
          ap (λ b. length (cond b (item ∷ with_key items e.0) (with_key items e.0)
          ++ flat_map (with_key (item ∷ items)) (keys_of es)))
          (ap (int_eq e.0) same ∙ same_id e.0)
          ∙ ap (λ rest. length ((item ∷ with_key items e.0) ++ rest))
          (others item items (keys_of es) above)
      by Greater is more = grind (arith, int_cmp_total, apart, length-append)

  -- there are as many items in the groups
  pub grouped_count : (items : List X) → length (grouped key items) ≡ length items
  unfolding by_id
  grouped_count [] = refl
  grouped_count (item ∷ items) =
      grind (arith, step_count, units, rising_rises, none_with, rising_has, grouped_count items)

  abbrev lt : X → X → Bool
  lt x y = is_lt (int_cmp (key x) (key y))

  -- the ids of items behind the first one of sorted ones are not below its id
  none_below : (item : X) (items : List X) → IsSortedByKey key int_cmp (item ∷ items)
      → All (λ id. is_lt (int_cmp id (key item)) ≡ false) (rising (map key items))
  none_below item items sorted =
      let P : ℤ → Type 0 = λ id. is_lt (int_cmp id (key item)) ≡ false in
      all_rising P (map key items) (All-map P key items (λ k d h.
      sorted_far lt (ranks_by int_cmp_total key) (item ∷ items) sorted 0 (suc k) d (omega arith)
      (omega (arith, h))))

  -- sorted items are in groups
  in_groups : (items : List X) → IsSortedByKey key int_cmp items
      → flat_map (with_key items) (rising (map key items)) ≡ items
  unfolding by_id
  in_groups [] sorted = refl
  in_groups (item ∷ items) sorted =
      let rest : IsSortedByKey key int_cmp items = λ k d low h.
      let more : suc k + 1 ≡ suc (k + 1) = omega arith in
      subst (λ n. lt (get_or (item ∷ items) n d) (get_or items k d) ≡ false) more
      (sorted (suc k) d (omega arith) (omega (arith, h))) in
      step item items (by_id (units (map key items))) (none_below item items sorted)
      (rising_rises (map key items)) (sym (rising_has (key item) (map key items)))
      (in_groups items rest)

  -- items have ids where some are with them
  has_with : (q : ℤ) (items : List X)
      → list_any (int_eq q) (map key items) ≡ has_some (with_key items q)
  has_with q [] = refl
  has_with q (item ∷ items) = grind (arith, cases_Bool, ne_eqb, has_with q items)

  -- a stable sort by the keys, where there is an item of each key
  pub sorted_groups : (of : ℤ → X) → ((id : ℤ) → key (of id) ≡ id) → (items sorted : List X)
      → IsSortedByKey key int_cmp sorted → IsStableByKey key int_cmp items sorted
      → sorted ≡ grouped key items
  sorted_groups of own items sorted up stable =
      let same : (id : ℤ) → with_key sorted id ≡ with_key items id = λ id.
      let test : ties lt (of id) ≡ (λ item. int_eq id (key item)) =
      λ i item. (tied (key (of id)) (key item) ∙ ap (λ own. int_eq own (key item)) (own id)) i in
      sym (ap (λ (p : X → Bool). filter p sorted) test) ∙ stable (of id)
      ∙ ap (λ (p : X → Bool). filter p items) test in
      let ids : rising (map key sorted) ≡ rising (map key items) =
      same_rising (map key sorted) (map key items)
      (λ q. has_with q sorted ∙ ap has_some (same q) ∙ sym (has_with q items)) in
      sym (in_groups sorted up)
      ∙ ap (flat_map (with_key sorted)) ids
      ∙ ap (λ (groups : ℤ → List X). flat_map groups (rising (map key items))) (λ i id. same id i)
