-- Numbers times slacks, added up: what a change of one number changes, and what they are at least.
use Rattle.plan_num.proofs.Common.{◌≡◌, ℕ, ℤ, pos, zero, suc, ◌+◌, ◌<◌, ◌≤◌, ◌+ℤ◌, ◌-ℤ◌, List, []}
use Rattle.plan_num.proofs.Common.{◌∷◌, ◌++◌, length, take, get_or, set, subst, arith, ints}
use Rattle.plan_num.proofs.Common.{take_all, take_more, ◌∙◌, neg_ℤ, length-take, ap}
use lib.IntN.{*ℤ_comm, zero-*ℤ}
use Rattle.std.proofs.Common.{◌*ℤ◌}
use Rattle.std.specs.Int.{int_min}
use Rattle.pesp_judge.specs.declared.weighted.WeightedActivity.{WeightedActivity}
use Rattle.pesp_judge.specs.Weighted.{span_of}
use Rattle.pesp_judge.specs.Leaves.{least_of, products}
use Rattle.pesp_judge.proofs.Products.{over_product, over_sum, sum_over, neg_over}
use Rattle.pesp_judge.proofs.Slacks.{nothing}

-- one number less by so much: the products are less by that times the slack
pub products_set : (numbers slacks : List ℤ) (place : ℕ) (by : ℤ) → place < length numbers
    → length slacks ≡ length numbers
    → products (set numbers place (get_or numbers place (pos 0) -ℤ by)) slacks
    ≡ products numbers slacks -ℤ by *ℤ get_or slacks place (pos 0)
unfolding products
products_set [] slacks place by some same = absurd (omega (arith, some))
products_set (number ∷ more) [] place by some same = absurd (omega (arith, same))
products_set (number ∷ more) (slack ∷ slacks) zero by some same =
    let parts = sum_over number (neg_ℤ by) slack in
    let off = neg_over by slack in omega (arith, ints)
products_set (number ∷ more) (slack ∷ slacks) (suc place) by some same =
    let rest = products_set more slacks place by (omega (arith, some)) (omega (arith, same)) in
    omega (arith, ints)

-- one number more of those that are added up at least
pub least_push : (period : ℕ) (numbers : List ℤ) (activities : List WeightedActivity) (number : ℤ)
    (it : WeightedActivity) → length numbers ≡ length activities
    → least_of period (numbers ++ number ∷ []) (activities ++ it ∷ [])
    ≡ least_of period numbers activities +ℤ int_min number (pos 0) *ℤ span_of period it.activity
unfolding least_of
least_push period [] [] number it same = omega (arith, ints)
least_push period [] (first ∷ activities) number it same = absurd (omega (arith, same))
least_push period (one ∷ numbers) [] number it same = absurd (omega (arith, same))
least_push period (one ∷ numbers) (first ∷ activities) number it same =
    let rest = least_push period numbers activities number it (omega (arith, same)) in
    omega (arith, ints)

pub least_more : (period : ℕ) (numbers : List ℤ) (activities : List WeightedActivity) (index : ℕ)
    → index < length numbers → length numbers ≡ length activities
    → least_of period (take (index + 1) numbers) (take (index + 1) activities)
    ≡ least_of period (take index numbers) (take index activities)
    +ℤ int_min (get_or numbers index (pos 0)) (pos 0)
    *ℤ span_of period (get_or activities index nothing).activity
least_more period numbers activities index some same =
    rw (take_more numbers index (pos 0) some)
    (rw (take_more activities index nothing (subst (λ n. index < n) same some))
    (least_push period (take index numbers) (take index activities)
    (get_or numbers index (pos 0)) (get_or activities index nothing)
    (same_front index)))
  where
    same_front : (n : ℕ) → length (take n numbers) ≡ length (take n activities)
    same_front n =
        let left = length-take n numbers in
        let right = length-take n activities in omega (arith, left, right, same)

-- an inequality is taken off, one step more
pub falls_more : (numbers slacks : List ℤ) (place : ℕ) (count amount so_far before : ℤ)
    → place < length numbers → length slacks ≡ length numbers
    → products numbers slacks ≡ before -ℤ amount *ℤ so_far
    → products (set numbers place (get_or numbers place (pos 0) -ℤ count *ℤ amount)) slacks
    ≡ before -ℤ amount *ℤ (so_far +ℤ count *ℤ get_or slacks place (pos 0))
falls_more numbers slacks place count amount so_far before some same is =
    let slack = get_or slacks place (pos 0) in
    let less = products_set numbers slacks place (count *ℤ amount) some same in
    let parts = over_sum amount so_far (count *ℤ slack) in
    let turned : (count *ℤ amount) *ℤ slack ≡ amount *ℤ (count *ℤ slack) =
    ap (λ z. z *ℤ slack) (*ℤ_comm count amount) ∙ over_product amount count slack in
    omega (arith, ints)

-- nothing is taken off before the first step
pub off_none : (before amount none : ℤ) → none ≡ pos 0 → before ≡ before -ℤ amount *ℤ none
off_none before amount none is =
    let product = ap (λ z. amount *ℤ z) is ∙ *ℤ_comm amount (pos 0) ∙ zero-*ℤ amount in
    omega (arith, ints)

-- all numbers are added up
pub least_whole : (period period' : ℕ) (numbers : List ℤ)
    (activities activities' : List WeightedActivity) (index : ℕ) (sum : ℤ) → period ≡ period'
    → activities ≡ activities' → length numbers ≡ length activities → length activities ≤ index
    → sum ≡ least_of period (take index numbers) (take index activities)
    → sum ≡ least_of period' numbers activities'
least_whole period period' numbers activities activities' index sum same all each done is =
    rw (← same) (rw (← all) (is ∙ (λ i. least_of period
    (take_all index numbers (omega (arith, each, done)) i) (take_all index activities done i))))
