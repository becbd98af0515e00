-- What holds of ids that were sorted, and of entries by their ids.
use Rattle.plan_num.proofs.Common.{◌≡◌, ℤ, ◌+◌, ◌≤◌, Bool, true, false, ◌&&◌, T, List, [], ◌∷◌}
use Rattle.plan_num.proofs.Common.{length, map, refl, arith, All, AllByRecursion, keys_of}
use Rattle.plan_num.proofs.Common.{values_of, int_cmp, is_lt, put, is_sorted, below_all, length-map}
use Rattle.plan_num.proofs.Common.{All-cons, All-head, All-tail, length-keys_of}
use Rattle.std.specs.List.Sorted.{IsStrictlySortedBy}
use Rattle.std.specs.declared.cmp.Ordering.{Ordering}
use Rattle.std.specs.declared.cmp.Ordering.TheVariants.{Less, Equal, Greater}
use Rattle.walks.specs.RisingIds.{by_id, rising}
use Rattle.walks.proofs.ById.{by_id_sorted}

-- ---- the order of ids

first_of : (a b : Bool) → T (a && b) → T a
first_of true b h = tt
first_of false b h = h

second_of : (a b : Bool) → T (a && b) → T b
second_of true b h = h
second_of false b h = absurd h

less : (o : Ordering) → T (is_lt o) → o ≡ Less
less Less h = refl
less Equal h = absurd h
less Greater h = absurd h

above : {X : Type 0} (k : ℤ) (es : List (ℤ × X)) → T (below_all int_cmp k es)
    → AllByRecursion (λ y. int_cmp k y ≡ Less) (keys_of es)
above k [] h = tt
above k (e ∷ es) h = (less _ (first_of _ _ h), above k es (second_of _ _ h))

pub sorted_rise : {X : Type 0} (es : List (ℤ × X)) → T (is_sorted int_cmp es)
    → IsStrictlySortedBy int_cmp (keys_of es)
unfolding IsStrictlySortedBy
sorted_rise [] h = tt
sorted_rise (e ∷ es) h = (above e.0 es (first_of _ _ h), sorted_rise es (second_of _ _ h))

-- ---- entries by id

length_put : {X : Type 0} (k : ℤ) (v : X) (es : List (ℤ × X))
    → length (put int_cmp k v es) ≤ length es + 1
length_put k v [] = omega arith
length_put k v (e ∷ es) = grind (arith, length_put k v es)

pub length_by_id : {X : Type 0} (es : List (ℤ × X)) → length (by_id es) ≤ length es
unfolding by_id
length_by_id [] = omega arith
length_by_id (e ∷ es) = omega (arith, length_put e.0 e.1 (by_id es), length_by_id es)

all_put : {X : Type 0} (P : X → Type 0) (k : ℤ) (v : X) (es : List (ℤ × X)) → P v
    → All P (values_of es) → All P (values_of (put int_cmp k v es))
all_put P k v [] own all = All-cons P v [] own all
all_put P k v (e ∷ es) own all =
    let rest = All-tail P e.1 (values_of es) all in grind (
      arith,
      All-cons,
      All-head,
      all_put P k v
          es own rest,
    )

-- what holds of each value holds of each by id
pub all_by_id : {X : Type 0} (P : X → Type 0) (es : List (ℤ × X)) → All P (values_of es)
    → All P (values_of (by_id es))
unfolding by_id
all_by_id P [] all = all
all_by_id P (e ∷ es) all = all_put P e.0 e.1 (by_id es) (All-head P e.1 (values_of es) all)
    (all_by_id P es (All-tail P e.1 (values_of es) all))

-- ids that were sorted rise
pub rising_rises : (ids : List ℤ) → IsStrictlySortedBy int_cmp (rising ids)
rising_rises ids = sorted_rise _ (by_id_sorted _)

-- what holds of each id holds of each that was sorted
all_keys_put : {X : Type 0} (P : ℤ → Type 0) (k : ℤ) (v : X) (es : List (ℤ × X)) → P k → All P (keys_of es) → All P (keys_of (put int_cmp k v es))
all_keys_put P k v [] own all = All-cons P k [] own all
all_keys_put P k v (e ∷ es) own all =
    grind (
      arith,
      All-cons,
      All-head,
      All-tail,
      all_keys_put P k v es own (All-tail P e.0 (keys_of es) all),
    )

pub all_rising : (P : ℤ → Type 0) (ids : List ℤ) → All P ids → All P (rising ids)
unfolding by_id
all_rising P [] all = all
all_rising P (id ∷ ids) all = all_keys_put P id tt (by_id (map (λ id. (id, tt {0})) ids)) (All-head P id ids all) (all_rising P ids (All-tail P id ids all))

-- there are not more ids after they were sorted
pub rising_length : (ids : List ℤ) → length (rising ids) ≤ length ids
rising_length ids = grind (arith, length-keys_of, length_by_id, length-map)
