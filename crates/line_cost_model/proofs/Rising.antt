-- Lists that rise, with one item more.
use Rattle.plan_num.proofs.Common.{◌≡◌, ℕ, ◌<◌, List, [], ◌∷◌, ◌++◌, get_or, arith, All}
use Rattle.plan_num.proofs.Common.{AllByRecursion, IsStrictlyIncreasing, cases_lt, length_push}
use Rattle.plan_num.proofs.Common.{get_or_push, All-head, All-tail, All-get_or, get_or-append}
use Rattle.std.specs.List.Sorted.{IsStrictlySortedBy}
use Rattle.std.specs.declared.cmp.Ordering.{Ordering}
use Rattle.std.specs.declared.cmp.Ordering.TheVariants.{Less}

-- numbers that rise, and one above them all
pub increasing_push : (xs : List ℕ) (x : ℕ) → IsStrictlyIncreasing xs → All (λ y. y < x) xs
    → IsStrictlyIncreasing (xs ++ x ∷ [])
increasing_push xs x rise below k within =
    grind (arith, length_push, cases_lt, get_or-append, get_or, get_or_push, All-get_or)

each_push : {X : Type 0} (P : X → Type 0) (xs : List X) (x : X) → AllByRecursion P xs → P x
    → AllByRecursion P (xs ++ x ∷ [])
each_push P [] x all own = (own, tt)
each_push P (y ∷ xs) x all own = (all.0, each_push P xs x all.1 own)

-- keys that rise, and one above them all
pub sorted_push : {K : Type 0} (cmp : K → K → Ordering) (ks : List K) (k : K)
    → IsStrictlySortedBy cmp ks → All (λ other. cmp other k ≡ Less) ks
    → IsStrictlySortedBy cmp (ks ++ k ∷ [])
unfolding IsStrictlySortedBy
sorted_push cmp [] k rise below = (tt, tt)
sorted_push cmp (first ∷ ks) k rise below = grind (
  arith,
  each_push,
  All-head,
  All-tail,
  sorted_push
      cmp ks k rise.1 (All-tail (λ other. cmp other k ≡ Less) first ks below),
)
