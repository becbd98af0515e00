-- What is at a place of a list, and what stands before it.
use Rattle.plan_num.proofs.Common.{◌≡◌, ℕ, zero, suc, ℤ, pos, ◌<◌, ◌<ℤ◌, arith, List, [], ◌∷◌}
use Rattle.plan_num.proofs.Common.{length, map, take, get_or, slice_get, zip, ap, subst, sym, ◌∙◌}
use Rattle.plan_num.proofs.Common.{Some, All, IsStrictlySortedBy, int_cmp, MatchOrdering}
use Rattle.plan_num.proofs.Common.{get_or-map, length-map, length-take-le, get_or-take}
use Rattle.plan_num.proofs.Common.{Less-from_sorted, get_or_from_slice_get, slice_get_within}
use Rattle.plan_num.proofs.Common.{none-some, int_ranks}
use Rattle.std.specs.declared.cmp.Ordering.TheVariants.{Less}
use Rattle.plan_num.proofs.Tests.{less_is}

-- two at a place are a pair there
pub zip_at : {X Y : Type 0} (xs : List X) (ys : List Y) (i : ℕ) (x : X) (y : Y)
    → slice_get xs i ≡ Some x → slice_get ys i ≡ Some y → slice_get (zip xs ys) i ≡ Some (x, y)
zip_at [] ys i x y is own = absurd (none-some x is)
zip_at (a ∷ xs) [] i x y is own = absurd (none-some y own)
zip_at (a ∷ xs) (b ∷ ys) zero x y is own = grind arith
zip_at (a ∷ xs) (b ∷ ys) (suc i) x y is own = zip_at xs ys i x y is own

-- where ids rise, those before a place are below its own
pub below : {X : Type 0} (id : X → ℤ) (xs : List X) (i : ℕ) (x : X)
    → IsStrictlySortedBy int_cmp (map id xs) → slice_get xs i ≡ Some x
    → All (λ y. id y <ℤ id x) (take i xs)
below id xs i x rise is = λ k d h.
    let within = slice_get_within xs i x is in
    let few = length-take-le i xs (omega (arith, within)) in
    let before : k < i = omega (arith, h, few) in
    let there : k < length xs = omega (arith, before, within) in
    let less = Less-from_sorted int_cmp (map id xs) k i (pos 0) rise before
    (omega (arith, within, length-map xs id)) in
    let low : get_or (map id xs) k (pos 0) ≡ id (get_or (take i xs) k d) =
    get_or-map id xs k d (pos 0) there ∙ ap id (sym (get_or-take i xs k d before)) in
    let high : get_or (map id xs) i (pos 0) ≡ id x =
    get_or-map id xs i x (pos 0) within ∙ ap id (get_or_from_slice_get xs i x x is) in
    less_is _ _ (ap (λ n. int_cmp n (id x)) (sym low) ∙ ap (int_cmp (get_or (map id xs) k (pos 0)))
    (sym high) ∙ less)
