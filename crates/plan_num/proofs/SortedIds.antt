-- Ids that rise, and the index of one of them.
use Rattle.plan_num.proofs.Common.{◌≡◌, ℕ, ℤ, zero, suc, ◌+◌, ◌<◌, ◌≤◌, arith, Bool, true, false}
use Rattle.plan_num.proofs.Common.{cond, List, [], ◌∷◌, ◌++◌, length, map, take, get_or, slice_get}
use Rattle.plan_num.proofs.Common.{option_map, append_assoc, position, refl, ap, sym, ◌∙◌, Some}
use Rattle.plan_num.proofs.Common.{None, nat_lt, int_lt, inl, inr, pos, AllByRecursion, HoldsAt}
use Rattle.plan_num.proofs.Common.{IsNonDecreasingBy, IsPartitionPoint, int_cmp, int_eq, lt-ltb}
use Rattle.plan_num.proofs.Common.{le-ltb, cases_lt, Decides-int_eq, position-Some}
use Rattle.plan_num.proofs.Common.{position_or_len_is, exact_signed, int_cmp_total, tied_itself}
use Rattle.std.specs.List.Sorted.{IsStrictlySortedBy}
use Rattle.std.specs.Ordering.{ordering_index}
use Rattle.std.specs.declared.cmp.Ordering.{Ordering}
use Rattle.std.specs.declared.cmp.Ordering.TheVariants.{Less, Equal, Greater}

each_at : {X : Type 0} (P : X → Type 0) (xs : List X) → AllByRecursion P xs → (k : ℕ) (d : X)
    → k < length xs → P (get_or xs k d)
each_at P [] all k d h = absurd (omega arith)
each_at P (x ∷ xs) all zero d h = all.0
each_at P (x ∷ xs) all (suc k) d h = each_at P xs all.1 k d (omega arith)

-- an earlier id is less
pub rises : (ids : List ℤ) → IsStrictlySortedBy int_cmp ids → (i j : ℕ) (d : ℤ) → i < j
    → j < length ids → int_cmp (get_or ids i d) (get_or ids j d) ≡ Less
unfolding IsStrictlySortedBy
rises [] up i j d h k = absurd (omega arith)
rises (id ∷ ids) up i zero d h k = absurd (omega arith)
rises (id ∷ ids) up zero (suc j) d h k =
    each_at (λ other. int_cmp id other ≡ Less) ids up.0 j d (omega arith)
rises (id ∷ ids) up (suc i) (suc j) d h k = rises ids up.1 i j d (omega arith) (omega arith)

-- ---- the first place that passes

module _ {X : Type 0} (p : X → Bool) (d : X) (xs : List X) where
  stands_first : (i : ℕ) → i < length xs → p (get_or xs i d) ≡ true
      → ((k : ℕ) → k < i → p (get_or xs k d) ≡ false) → position p xs ≡ Some i
  stands_first i h passes none = grind (arith, nat_lt, position_or_len_is, lt-ltb)

  stands_nowhere : ((k : ℕ) → k < length xs → p (get_or xs k d) ≡ false) → position p xs ≡ None
  stands_nowhere none =
      ap (λ n. cond (nat_lt n (length xs)) (Some n) None)
      (position_or_len_is p xs (length xs) d (omega arith) none (λ l. absurd (omega arith)))
      ∙ ap (λ b. cond b (Some (length xs)) None) (le-ltb (length xs) (length xs) (omega arith))

-- ---- orders

equal_is : (x y : ℤ) (o : Ordering) → int_cmp x y ≡ o → o ≡ Equal → int_eq x y ≡ true
equal_is x y o is e = rw (is ∙ e) refl

less_is_not : (x y : ℤ) → int_cmp x y ≡ Less → int_eq x y ≡ false
less_is_not x y e = rw e refl

greater_is_not : (x y : ℤ) → int_cmp x y ≡ Greater → int_eq x y ≡ false
greater_is_not x y e = rw e refl

turned_less : (x y : ℤ) → int_cmp x y ≡ Less → int_cmp y x ≡ Greater
turned_less x y e = int_cmp_total.antisymm y x ∙ rw e refl

turned_greater : (x y : ℤ) → int_cmp x y ≡ Greater → int_cmp y x ≡ Less
turned_greater x y e = int_cmp_total.antisymm y x ∙ rw e refl

turned_equal : (x y : ℤ) → int_cmp x y ≡ Equal → int_cmp y x ≡ Equal
turned_equal x y e = int_cmp_total.antisymm y x ∙ rw e refl

-- ---- a binary search

same_id : (x y : ℤ) → int_cmp x y ≡ Equal → x ≡ y
same_id x y e = exact_signed x y e

module _ (ids : List ℤ) (id : ℤ) (up : IsStrictlySortedBy int_cmp ids) where
  less_before : (i k : ℕ) → i < length ids → int_cmp (get_or ids i (pos 0)) id ≡ Equal → k < i
      → int_eq id (get_or ids k (pos 0)) ≡ false
  less_before i k h here l = grind (arith, get_or, same_id, rises, greater_is_not, turned_less)

  -- a search that ends at an id tells its first place
  pub found : (i : ℕ) → i < length ids → HoldsAt (λ y. int_cmp y id ≡ Equal) ids i
      → position (int_eq id) ids ≡ Some i
  found i h is =
      stands_first (int_eq id) (pos 0) ids i h
      (equal_is id _ _ (turned_equal _ id (is (pos 0))) refl)
      (λ k l. less_before i k h (is (pos 0)) l)

  in_order : (x y : ℤ) → int_cmp x y ≡ Less → (o u : Ordering) → int_cmp x id ≡ o
      → int_cmp y id ≡ u → ordering_index o ≤ ordering_index u
  in_order x y low Less u a b = omega arith
  in_order x y low Equal u a b = grind arith
  in_order x y low Greater u a b = grind (arith, turned_less, int_cmp_total, turned_greater)

  non_decreasing : IsNonDecreasingBy (λ y. ordering_index (int_cmp y id)) ids
  non_decreasing i j d l h =
      elim (cases_lt i j) [
        | inl less ↦ in_order _ _ (rises ids up i j d less h) _ _ refl refl
        | inr more ↦ grind (arith, get_or)
      ]

  -- one that ends elsewhere tells that there is none
  pub missed : (i : ℕ) → (IsNonDecreasingBy (λ y. ordering_index (int_cmp y id)) ids
      → IsPartitionPoint (λ y. int_cmp y id ≡ Less) (λ y. int_cmp y id ≡ Greater) ids i)
      → position (int_eq id) ids ≡ None
  missed i parted =
      let parts = parted non_decreasing in
      stands_nowhere (int_eq id) (pos 0) ids (λ k h.
      elim (cases_lt k i) [
        | inl less ↦ greater_is_not id _ (turned_less _ id (parts.0 k (pos 0) (omega arith) less))
        | inr more ↦ less_is_not id _ (turned_greater _ id (parts.1 k (pos 0) more h))
      ])

-- ---- ids that are listed one after the other

-- what is kept of the first items, with one more
pub kept_more : {X R Y : Type 0} (told : X → R) (keep : R → Y) (xs : List X) (i : ℕ) (r : R)
    → option_map told (slice_get xs i) ≡ Some r
    → map (λ x. keep (told x)) (take (i + 1) xs) ≡ map (λ x. keep (told x)) (take i xs) ++ keep r
    ∷ []
kept_more told keep [] i r e = cc
kept_more told keep (x ∷ xs) zero r e =
    let same : told x ≡ r = cc in ap (λ s. keep s ∷ []) same
kept_more told keep (x ∷ xs) (suc i) r e = grind (arith, kept_more told keep xs i r e)

-- the same behind some others, where the one more was passed on
pub kept_behind : {X R Y : Type 0} (told : X → R) (keep : R → Y) (xs : List X) (i : ℕ) (r : R)
    (start new old : List Y) (put : Y) → new ≡ old ++ put ∷ [] → put ≡ keep r
    → old ≡ start ++ map (λ x. keep (told x)) (take i xs) → option_map told (slice_get xs i)
    ≡ Some r
    → new ≡ start ++ map (λ x. keep (told x)) (take (i + 1) xs)
kept_behind told keep xs i r start new old put pushed is are e =
    grind (arith, append_assoc, kept_more)

-- of two ids with an index the one of the lesser index is less
pub found_twice : (ids : List ℤ) (x y : ℤ) (i j : ℕ) → IsStrictlySortedBy int_cmp ids
    → position (int_eq x) ids ≡ Some i → position (int_eq y) ids ≡ Some j
    → int_lt x y ≡ nat_lt i j
found_twice ids x y i j up first second =
    let a = position-Some (int_eq x) ids i (pos 0) first in
    let b = position-Some (int_eq y) ids j (pos 0) second in
    let own : x ≡ get_or ids i (pos 0) = (Decides-int_eq x _).0 a.1 in
    let other : y ≡ get_or ids j (pos 0) = (Decides-int_eq y _).0 b.1 in
    let u = get_or ids i (pos 0) in
    let v = get_or ids j (pos 0) in
    rw (own, other) (elim (cases_lt i j) [
      | inl less ↦
          less_tells u v (rises ids up i j (pos 0) less b.0) ∙ sym (lt-ltb i j less)
      | inr more ↦ elim (cases_lt j i) [
        | inl greater ↦
            greater_tells u v (rises ids up j i (pos 0) greater a.0) ∙ sym (le-ltb i j more)
        | inr same ↦
            let e : i ≡ j = omega arith in
            rw e (equal_tells (get_or ids j (pos 0)) ∙ sym (le-ltb j j (omega arith)))
      ]
    ])
  where
    less_tells : (x y : ℤ) → int_cmp x y ≡ Less → int_lt x y ≡ true
    less_tells x y e = grind (arith, int_lt)

    greater_tells : (x y : ℤ) → int_cmp y x ≡ Less → int_lt x y ≡ false
    greater_tells x y e = grind (arith, int_lt, turned_less)

    equal_tells : (x : ℤ) → int_lt x x ≡ false
    equal_tells x = grind (arith, int_lt, tied_itself, int_cmp_total)
