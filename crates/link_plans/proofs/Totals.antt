-- Sums of numbers, and the links of a plan from a trip on.
use Rattle.plan_num.proofs.Common.{◌≡◌, ℕ, ℤ, suc, pos, ◌+◌, ◌<◌, ◌+ℤ◌, List, [], ◌∷◌, length, map}
use Rattle.plan_num.proofs.Common.{sum, fold, drop, filter_map, Option, Some, None, option_map}
use Rattle.plan_num.proofs.Common.{unwrap_or, ap, arith, enumerate_from, ints, sum_by-cons}
use Rattle.std.proofs.Math.Seq.{drop-cons}
use Rattle.link_plans.specs.Plans.{next, total}

-- a sum from some number on
total_from : (start : ℤ) (numbers : List ℤ)
    → fold (λ sum number. sum +ℤ number) start numbers ≡ start +ℤ total numbers
total_from start [] = omega (arith, ints)
total_from start (first ∷ numbers) =
    let one : fold (λ sum number. sum +ℤ number) (start +ℤ first) numbers
    ≡ (start +ℤ first) +ℤ total numbers =
    total_from (start +ℤ first) numbers in
    let two : fold (λ sum number. sum +ℤ number) (pos 0 +ℤ first) numbers
    ≡ (pos 0 +ℤ first) +ℤ total numbers =
    total_from (pos 0 +ℤ first) numbers in
    omega (arith, ints, one, two)

-- a sum of one number more
pub total_more : (first : ℤ) (numbers : List ℤ) → total (first ∷ numbers) ≡ first +ℤ total numbers
total_more first numbers = grind (arith, total_from, ints)

-- ---- the links of a plan from a trip on

-- the links of successors, of which the first one is that of a trip
abbrev pub links_from : ℕ → List (Option ℕ) → List (ℕ × ℕ)
links_from n plan =
    filter_map (λ at. option_map (λ j. (at.0, j)) at.1) (enumerate_from n plan)

-- what they gain together
abbrev pub gains_from : (ℕ → ℕ → Option ℤ) → ℕ → List (Option ℕ) → ℤ
gains_from gain n plan =
    total (map (λ (link : ℕ × ℕ). unwrap_or (gain link.0 link.1) (pos 0)) (links_from n plan))

-- their dead minutes together
abbrev pub minutes_from : (ℕ → ℕ → Option ℕ) → ℕ → List (Option ℕ) → ℕ
minutes_from minutes n plan =
    sum (map (λ (link : ℕ × ℕ). unwrap_or (minutes link.0 link.1) 0) (links_from n plan))

-- the sums of one link more
pub gains_more : (gain : ℕ → ℕ → Option ℤ) (n j : ℕ) (plan : List (Option ℕ))
    → gains_from gain n (Some j ∷ plan)
    ≡ unwrap_or (gain n j) (pos 0) +ℤ gains_from gain (n + 1) plan
gains_more gain n j plan = grind (arith, total_more, unwrap_or)

pub minutes_more : (minutes : ℕ → ℕ → Option ℕ) (n j : ℕ) (plan : List (Option ℕ))
    → minutes_from minutes n (Some j ∷ plan)
    ≡ unwrap_or (minutes n j) 0 + minutes_from minutes (n + 1) plan
minutes_more minutes n j plan = sum_by-cons (λ n. n) (unwrap_or (minutes n j) 0)
    (map (λ (link : ℕ × ℕ). unwrap_or (minutes link.0 link.1) 0) (links_from (n + 1) plan))

-- ---- a trip more of a plan

rest_is : (plan : List (Option ℕ)) (i : ℕ) (at : Option ℕ) → i < length plan → next plan i ≡ at
    → drop i plan ≡ at ∷ drop (i + 1) plan
rest_is plan i at within is = grind (arith, drop-cons)

module _ (minutes : ℕ → ℕ → Option ℕ) (plan : List (Option ℕ)) (i : ℕ) (within : i < length plan) where
  -- a trip without a successor has no link
  pub alone_count : next plan i ≡ None → length (links_from i (drop i plan))
      ≡ length (links_from (i + 1) (drop (i + 1) plan))
  alone_count is = ap (λ rest. length (links_from i rest)) (rest_is plan i None within is)

  pub alone_minutes : next plan i ≡ None → minutes_from minutes i (drop i plan)
      ≡ minutes_from minutes (i + 1) (drop (i + 1) plan)
  alone_minutes is = ap (minutes_from minutes i) (rest_is plan i None within is)

  -- a trip with one has one
  pub linked_count : (j : ℕ) → next plan i ≡ Some j → length (links_from i (drop i plan))
      ≡ suc (length (links_from (i + 1) (drop (i + 1) plan)))
  linked_count j is = ap (λ rest. length (links_from i rest)) (rest_is plan i (Some j) within is)

  pub linked_minutes : (j : ℕ) (value : ℕ) → next plan i ≡ Some j → minutes i j ≡ Some value
      → minutes_from minutes i (drop i plan)
      ≡ value + minutes_from minutes (i + 1) (drop (i + 1) plan)
  linked_minutes j value is has = grind (arith, rest_is, minutes_more, unwrap_or)
