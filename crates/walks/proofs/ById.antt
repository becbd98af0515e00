-- Entries and ids in the order of their ids.
use Rattle.plan_num.proofs.Common.{◌≡◌, ℤ, pos, ◌+◌, Bool, true, false, ◌&&◌, cond, T, List, []}
use Rattle.plan_num.proofs.Common.{◌∷◌, map, get_or, refl, ap, subst, sym, ◌∙◌, arith, Some, None}
use Rattle.plan_num.proofs.Common.{list_any, AllByRecursion, IsDistinct, IsSorted, keys_of, lookup}
use Rattle.plan_num.proofs.Common.{int_eq, int_cmp, is_lt, eq_by_cmp, put, is_sorted}
use Rattle.plan_num.proofs.Common.{int_cmp-IsAntisymmetric, below_all, find-put, same_entries}
use Rattle.plan_num.proofs.Common.{int_cmp_total, apart_from_distinct, exact_signed}
use Rattle.std.specs.List.Sorted.{IsStrictlySortedBy}
use Rattle.std.specs.declared.cmp.Ordering.TheVariants.{Less}
use Rattle.std.specs.FinMap.{find}
use Rattle.std.specs.FinMap.Entries.{is_sorted-put}
use Rattle.std.proofs.lemmas.Map.Keys.{sorted_from_all_adjacent}
use Rattle.walks.specs.declared.edge.Edge.{Edge}
use Rattle.walks.specs.Networks.{AreKeyed}
use Rattle.walks.specs.RisingIds.{by_id, rising}

-- two ids are one by their order as by their equality
same_test : (x y : ℤ) → eq_by_cmp int_cmp x y ≡ int_eq x y
same_test x y = grind arith

-- a look-up by equality is one by order
found : {X : Type 0} (q : ℤ) (es : List (ℤ × X)) → find int_cmp q es ≡ lookup (int_eq q) es
found q [] = refl
found q (e ∷ es) = ap (λ b. cond b (Some e.1) (find int_cmp q es)) (same_test q e.0)
    ∙ ap (cond (int_eq q e.0) (Some e.1)) (found q es)

-- ---- the order of ids

-- entries by id are in the order of their ids
pub by_id_sorted : {X : Type 0} (es : List (ℤ × X)) → T (is_sorted int_cmp (by_id es))
unfolding by_id
by_id_sorted [] = tt
by_id_sorted (e ∷ es) = is_sorted-put int_cmp int_cmp_total e.0 e.1 (by_id es) (by_id_sorted es)

find_by_id : {X : Type 0} (q : ℤ) (es : List (ℤ × X))
    → find int_cmp q (by_id es) ≡ find int_cmp q es
unfolding by_id
find_by_id q [] = refl
find_by_id q (e ∷ es) = find-put int_cmp int_cmp_total q e.0 e.1 (by_id es)
    ∙ ap (cond (eq_by_cmp int_cmp q e.0) (Some e.1)) (find_by_id q es)

both : (a b : Bool) → T a → T b → T (a && b)
both true b p q = q
both false b p q = p

below : {X : Type 0} (k : ℤ) (es : List (ℤ × X))
    → AllByRecursion (λ y. int_cmp k y ≡ Less) (keys_of es) → T (below_all int_cmp k es)
below k [] h = tt
below k (e ∷ es) h = both _ _ (subst (λ o. T (is_lt o)) (sym h.0) tt) (below k es h.1)

rises : {X : Type 0} (es : List (ℤ × X)) → IsStrictlySortedBy int_cmp (keys_of es)
    → T (is_sorted int_cmp es)
unfolding IsStrictlySortedBy
rises [] h = tt
rises (e ∷ es) h = both _ _ (below e.0 es h.0) (rises es h.1)

-- of two ids that differ, the first is below the second where the second is not below the first
less : (x y : ℤ) → is_lt (int_cmp y x) ≡ false → int_eq x y ≡ false → int_cmp x y ≡ Less
less x y up apart = grind arith

-- different ids that were sorted rise
pub ids_rise : (ids : List ℤ) → IsSorted int_cmp ids → IsDistinct int_eq ids
    → IsStrictlySortedBy int_cmp ids
ids_rise ids sorted apart = sorted_from_all_adjacent int_cmp_total ids (pos 0)
    (λ k h. less (get_or ids k (pos 0)) (get_or ids (k + 1) (pos 0))
    (sorted k (pos 0) (omega arith) h) (apart_from_distinct int_eq ids k (k + 1) (pos 0) apart
    (omega arith) h))

-- sorted entries of different ids are by id, where they hold what others hold
pub sorted_entries : {X : Type 0} (es others : List (ℤ × X)) → IsSorted int_cmp (keys_of es)
    → IsDistinct int_eq (keys_of es) → ((q : ℤ) → lookup (int_eq q) es ≡ lookup (int_eq q) others)
    → es ≡ by_id others
sorted_entries es others sorted apart same =
    same_entries int_cmp int_cmp_total int_cmp-IsAntisymmetric es (by_id others)
    (rises es (ids_rise (keys_of es) sorted apart)) (by_id_sorted others)
    (λ q. found q es ∙ same q ∙ sym (found q others) ∙ sym (find_by_id q others))

-- ---- ids alone

units : List ℤ → List (ℤ × Unit {0})
units ids = map (λ id. (id, tt)) ids

keys_of_units : (ids : List ℤ) → keys_of (units ids) ≡ ids
unfolding units
keys_of_units [] = refl
keys_of_units (id ∷ ids) = ap (λ rest. id ∷ rest) (keys_of_units ids)

lookup_unit : (q : ℤ) (ids : List ℤ)
    → lookup (int_eq q) (units ids) ≡ cond (list_any (int_eq q) ids) (Some tt) None
unfolding units
lookup_unit q [] = refl
lookup_unit q (id ∷ ids) = grind (arith, units, lookup_unit q ids)

-- sorted ids that differ are rising ids, where they are those of another list
pub sorted_ids : (ids others : List ℤ) → IsSorted int_cmp ids → IsDistinct int_eq ids
    → ((q : ℤ) → list_any (int_eq q) ids ≡ list_any (int_eq q) others) → ids ≡ rising others
unfolding units
sorted_ids ids others sorted apart same =
    let keys : ids ≡ keys_of (units ids) = sym (keys_of_units ids) in grind (
      arith,
      sorted_entries,
      units,
      lookup_unit,
    )

-- ---- entries with the ids of their edges

tail_of : {X : Type 0} (x y : X) (xs ys : List X) → x ∷ xs ≡ y ∷ ys → xs ≡ ys
tail_of x y xs ys e = cc

put_keyed : (id : ℤ) (edge : Edge) (es : List (ℤ × Edge)) → id ≡ edge.id → AreKeyed es
    → AreKeyed (put int_cmp id edge es)
put_keyed id edge [] own keyed = ap (λ key. key ∷ []) own
put_keyed id edge (e ∷ es) own keyed =
    let first : e.0 ≡ e.1.id = cc in
    let rest : AreKeyed es = tail_of _ _ _ _ keyed in grind (
      arith,
      exact_signed,
      put_keyed id edge
          es own rest,
    )

-- entries by id have the ids of their edges, where each had
pub by_id_keyed : (es : List (ℤ × Edge)) → AreKeyed es → AreKeyed (by_id es)
unfolding by_id
by_id_keyed [] keyed = refl
by_id_keyed (e ∷ es) keyed =
    put_keyed e.0 e.1 (by_id es) (cc) (by_id_keyed es (tail_of _ _ _ _ keyed))
