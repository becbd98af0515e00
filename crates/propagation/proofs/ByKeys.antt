-- Items key by key: they are all items, in the order of their keys.
use Rattle.plan_num.proofs.Common.{◌≡◌, ◌∙◌, ℕ, suc, ◌-◌, ◌≤◌, ◌||◌, Bool, true, false, not, eqb}
use Rattle.plan_num.proofs.Common.{List, [], ◌∷◌, ◌++◌, filter, flat_map, get_or, All, refl, ap}
use Rattle.plan_num.proofs.Common.{subst, arith, AllByRecursion, IsDistinct, list_any}
use Rattle.plan_num.proofs.Common.{IsNonDecreasingBy, IsPermutation, eqb-true, false≢true}
use Rattle.plan_num.proofs.Common.{get_or_append_left, length-append, All-append, All-filter}
use Rattle.plan_num.proofs.Common.{All-nil, All-tail, filter_passes, IsDistinct-head}
use Rattle.plan_num.proofs.Common.{IsDistinct-tail}
use Rattle.std.proofs.Math.Seq.{get_or-append_right}
use Rattle.std.proofs.lemmas.List.Sorted.{IsNonDecreasingBy-drop, IsPermutation-append_right, IsPermutation-filter_both}
use Rattle.std.proofs.lemmas.List.Sorted.{IsPermutation-refl, IsPermutation-trans}
use Rattle.bit_rows.proofs.Cases.{by_less}

module _ {X : Type 0} (key : X → ℕ) where
  -- the items of a key, and those of other keys
  abbrev pub with_key : List X → ℕ → List X
  with_key xs k = filter (λ x. eqb (key x) k) xs

  abbrev pub without_key : ℕ → List X → List X
  without_key k xs = filter (λ x. not (eqb (key x) k)) xs

  -- items key by key
  abbrev pub by_keys : List X → List ℕ → List X
  by_keys xs keys = flat_map (with_key xs) keys

  -- the items of a key are there where those of another one are left out
  kept : (k other : ℕ) → eqb k other ≡ false → (xs : List X)
      → with_key (without_key k xs) other ≡ with_key xs other
  kept k other apart [] = refl
  kept k other apart (x ∷ xs) = grind (arith, eqb-true, kept k other apart xs)

  all_kept : (k : ℕ) (xs : List X) (keys : List ℕ) → AllByRecursion (λ other. eqb k other ≡ false) keys
      → by_keys (without_key k xs) keys ≡ by_keys xs keys
  all_kept k xs [] apart = refl
  all_kept k xs (other ∷ keys) apart =
      ap (λ some. some ++ by_keys (without_key k xs) keys) (kept k other apart.0 xs)
      ∙ ap (λ some. with_key xs other ++ some) (all_kept k xs keys apart.1)

  -- what is of no key
  none : (xs : List X) → All (λ x. list_any (eqb (key x)) [] ≡ true) xs → IsPermutation xs []
  none [] known = IsPermutation-refl []
  none (x ∷ xs) known = absurd (false≢true (known 0 x (omega arith)))

  -- each item is there once
  pub all_by_keys : (keys : List ℕ) (xs : List X) → IsDistinct eqb keys
      → All (λ x. list_any (eqb (key x)) keys ≡ true) xs → IsPermutation xs (by_keys xs keys)
  all_by_keys [] xs apart known = none xs known
  all_by_keys (k ∷ keys) xs apart known =
      let others = without_key k xs in
      let are : All (λ x. list_any (eqb (key x)) keys ≡ true) others = λ j d inside.
      let x = get_or others j d in
      let other : not (eqb (key x) k) ≡ true = filter_passes (λ x. not (eqb (key x) k)) xs j d inside in
      let one : (eqb (key x) k || list_any (eqb (key x)) keys) ≡ true =
      All-filter (λ x. not (eqb (key x) k)) (λ x. list_any (eqb (key x)) (k ∷ keys) ≡ true) xs known j d inside in
      one_other (eqb (key x) k) (list_any (eqb (key x)) keys) other one
      in
      let rest = subst (IsPermutation others) (all_kept k xs keys (IsDistinct-head eqb k keys apart))
      (all_by_keys keys others (IsDistinct-tail eqb k keys apart) are) in
      IsPermutation-trans xs (with_key xs k ++ others) (by_keys xs (k ∷ keys))
      (IsPermutation-filter_both (λ x. eqb (key x) k) (λ x. not (eqb (key x) k)) (λ x. refl) xs)
      (IsPermutation-append_right (with_key xs k) others (by_keys xs keys) rest)
    where
      one_other : (a b : Bool) → not a ≡ true → (a || b) ≡ true → b ≡ true
      one_other true b other one = absurd (false≢true other)
      one_other false b other one = one

  -- ---- their order

  module _ (n : X → ℕ) (rank : ℕ → ℕ) (xs : List X) (ranked : All (λ x. n x ≡ rank (key x)) xs) where
    -- the items of a key have one rank
    alike : (k : ℕ) → All (λ x. n x ≡ rank k) (with_key xs k)
    alike k j d inside =
        let x = get_or (with_key xs k) j d in
        All-filter (λ x. eqb (key x) k) (λ x. n x ≡ rank (key x)) xs ranked j d inside
        ∙ ap rank (eqb-true (key x) k (filter_passes (λ x. eqb (key x) k) xs j d inside))

    above : (least : ℕ) (keys : List ℕ) → All (λ k. least ≤ rank k) keys
        → All (λ x. least ≤ n x) (by_keys xs keys)
    above least [] are = All-nil (λ (x : X). least ≤ n x)
    above least (k ∷ keys) are =
        All-append (λ (x : X). least ≤ n x) (with_key xs k) (by_keys xs keys)
        (λ j d inside. omega (arith, alike k j d inside, are 0 k (omega arith)))
        (above least keys (All-tail (λ k. least ≤ rank k) k keys are))

    -- items of one rank before those of no lesser one
    joined : (v : ℕ) (some more : List X) → All (λ x. n x ≡ v) some → All (λ x. v ≤ n x) more
        → IsNonDecreasingBy n more → IsNonDecreasingBy n (some ++ more)
    joined v some more same high_more rise i j d le inside = grind (
      arith,
      length-append,
      by_less,
      get_or_append_left,
      get_or-append_right,
    )

    pub by_keys_rise : (keys : List ℕ) → IsNonDecreasingBy rank keys
        → IsNonDecreasingBy n (by_keys xs keys)
    by_keys_rise [] rise = λ i j d le inside. absurd (omega (arith, inside))
    by_keys_rise (k ∷ keys) rise =
        joined (rank k) (with_key xs k) (by_keys xs keys) (alike k)
        (above (rank k) keys (λ j d inside. rise 0 (suc j) d (omega arith) (omega (arith, inside))))
        (by_keys_rise keys (IsNonDecreasingBy-drop rank 1 (k ∷ keys) rise))
