-- What numbers of activities times their slacks are, and are at least.
use Rattle.plan_num.proofs.Common.{◌≡◌, ℕ, ℤ, pos, negsuc, zero, suc, ◌≤ℤ◌, List, [], ◌∷◌, map, All, All-head}
use Rattle.plan_num.proofs.Common.{All-tail, arith, ints, ap, sym, ◌∙◌}
use Rattle.std.proofs.Common.{◌*ℤ◌}
use lib.IntN.{*ℤ_comm, *ℤ-zero, zero-*ℤ}
use Rattle.std.specs.Int.{int_min}
use Rattle.std.proofs.lemmas.Int.{clamps, by_lt_z}
use Rattle.plan_num.proofs.Common.{◌-ℤ◌, ◌<ℤ◌}
use Rattle.pesp_judge.specs.declared.weighted.WeightedActivity.{WeightedActivity}
use Rattle.pesp_judge.specs.Weighted.{slack_in, slack_of_all, span_of}
use Rattle.pesp_judge.specs.Leaves.{least_of, products, scaled}
use Rattle.pesp_judge.proofs.Products.{grows, neg_over, over_product, over_sum}

-- the weights in parts, times the slacks, are the weighted slack in parts
pub scaled_slack : (parts : ℤ) (period : ℕ) (times : List ℕ) (activities : List WeightedActivity)
    → products (scaled parts activities) (map (λ it. slack_in period times it.activity) activities)
    ≡ parts *ℤ slack_of_all period times activities
unfolding products slack_of_all
scaled_slack parts period times [] = sym (*ℤ-zero parts)
scaled_slack parts period times (it ∷ more) =
    let slack = slack_in period times it.activity in
    let rest = scaled_slack parts period times more in
    let first = over_product parts (pos it.weight) slack in
    let sum = over_sum parts (pos it.weight *ℤ slack) (slack_of_all period times more) in
    omega (arith, ints, rest, first, sum)

-- one number times a slack
part_least : (number slack span : ℤ) → pos 0 ≤ℤ slack → slack ≤ℤ span
    → (int_min number (pos 0) *ℤ span) ≤ℤ (number *ℤ slack)
part_least (pos zero) slack span low high =
    omega (arith, ints, zero-*ℤ span, zero-*ℤ slack)
part_least (pos (suc n)) slack span low high =
    let some = grows (pos (suc n)) (pos 0) slack (omega (arith, ints)) low in
    let least : int_min (pos (suc n)) (pos 0) ≡ pos 0 = omega (arith, ints, clamps) in
    let none = ap (λ z. z *ℤ span) least ∙ zero-*ℤ span in
    omega (arith, ints, none, some, *ℤ-zero (pos (suc n)))
part_least (negsuc n) slack span low high =
    let more = grows (pos (suc n)) slack span (omega (arith, ints)) high in
    omega (arith, ints, more, neg_over (pos (suc n)) span, neg_over (pos (suc n)) slack)

pub least_shown : (period : ℕ) (times : List ℕ) (numbers : List ℤ)
    (activities : List WeightedActivity)
    → All (λ it. (pos 0 ≤ℤ slack_in period times it.activity)
    × (slack_in period times it.activity ≤ℤ span_of period it.activity)) activities
    → least_of period numbers activities
    ≤ℤ products numbers (map (λ it. slack_in period times it.activity) activities)
unfolding products least_of
least_shown period times [] activities spans = omega (arith, ints)
least_shown period times (number ∷ numbers) [] spans = omega (arith, ints)
least_shown period times (number ∷ numbers) (it ∷ more) spans =
    let Spans : WeightedActivity → Type 0 = λ it.
    (pos 0 ≤ℤ slack_in period times it.activity)
    × (slack_in period times it.activity ≤ℤ span_of period it.activity) in
    let here = All-head Spans it more spans in
    let first = part_least number (slack_in period times it.activity)
    (span_of period it.activity) here.0 here.1 in
    let rest = least_shown period times numbers more (All-tail Spans it more spans) in
    omega (arith, ints, first, rest)

-- a cost is whole, so it is as much as a claim where it is more than one less
pub claim_shown : (claim cost shown parts : ℤ) → pos 0 ≤ℤ parts
    → ((claim -ℤ pos 1) *ℤ parts) <ℤ shown → shown ≤ℤ (parts *ℤ cost) → claim ≤ℤ cost
claim_shown claim cost shown parts natural more most =
    by_lt_z cost claim
    (λ less. absurd (let grown = grows parts cost (claim -ℤ pos 1) natural (omega (arith, ints, less)) in
    omega (arith, ints, more, most, grown, *ℤ_comm (claim -ℤ pos 1) parts)))
    (λ enough. enough)
