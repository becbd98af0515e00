-- The lists of customers who want to go, by the stop where they start.
use Rattle.plan_num.proofs.Common.{◌≡◌, ℕ, ◌+◌, ◌<◌, ◌≤◌, Bool, cond, List, [], length, get_or, set}
use Rattle.plan_num.proofs.Common.{replicate, ap, arith, get_or-set_other, get_or-set_same}
use Rattle.plan_num.proofs.Common.{cases_eq, length-set}
use Rattle.walks.proofs.Common.{NetworkParts}
use Rattle.demand_paths.specs.Wanted.{sum_where, sum_between, everyone, AreWanted}
use Rattle.demand_paths.proofs.WantedSums.{sum_where-set, sum_where-one, sum_where-zeros, sum_between-set, sum_between-one}

module _ (network : NetworkParts) (wanted : List (List ℕ)) (from : ℕ)
    (are : AreWanted network wanted) (within : from < length network.stops) where
  -- another list at one stop
  pub list_set : (amounts : List ℕ) → length amounts ≡ length network.stops
      → AreWanted network (set wanted from amounts)
  list_set amounts size =
      grind (arith, length-set, cases_eq, get_or, get_or-set_same, get_or-set_other)

  pub list_there : (amounts : List ℕ) → get_or (set wanted from amounts) from [] ≡ amounts
  list_there amounts = grind (arith, get_or-set_same)

  -- a list of zeros in the place of none
  pub zeros_same : get_or wanted from [] ≡ [] → (passes : ℕ → ℕ → Bool)
      → sum_between passes 0 (set wanted from (replicate (length network.stops) 0))
      ≡ sum_between passes 0 wanted
  unfolding sum_where
  zeros_same none passes = grind (arith, sum_between-set, get_or, sum_where-zeros)

  -- customers more
  module _ (amounts : List ℕ) (is : amounts ≡ get_or wanted from []) (to customers : ℕ)
      (size : length amounts ≡ length network.stops) (there : to < length network.stops) where
    pub one_more : (passes : ℕ → ℕ → Bool)
        → sum_between passes 0 (set wanted from (set amounts to (get_or amounts to 0 + customers)))
        ≡ sum_between passes 0 wanted + cond (passes from to) customers 0
    one_more passes = grind (arith, sum_between-set, get_or, sum_where-set)

    pub more_fits : sum_between (λ _. everyone) 0 wanted + customers < 18446744073709551616
        → get_or amounts to 0 + customers < 18446744073709551616
    more_fits room =
        let here : from < length wanted = omega (arith, are.size) in
        let all : sum_where everyone 0 (get_or wanted from [])
        ≤ sum_between (λ _. everyone) 0 wanted = sum_between-one (λ _. everyone) from wanted here in
        let same = ap (sum_where everyone 0) is in
        let one : get_or amounts to 0 ≤ sum_where everyone 0 amounts =
        sum_where-one everyone to amounts (omega arith) in
        omega arith
