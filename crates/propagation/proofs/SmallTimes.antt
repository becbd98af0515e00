-- The least times are not too great for their column.
use Rattle.plan_num.proofs.Common.{◌≡◌, ◌∙◌, ℕ, zero, suc, ◌+◌, ◌*◌, ◌<◌, ◌≤◌, ◌==◌, ◌⊎◌, inl, inr}
use Rattle.plan_num.proofs.Common.{List, length, map, filter, get_or, All, ap, sym, arith, Contains}
use Rattle.plan_num.proofs.Common.{get_or-map, length-map, All-contains, get_or-map-range_with_len}
use Rattle.plan_num.proofs.Common.{length-map-range_with_len}
use Rattle.propagation.specs.declared.step.Activity.{Activity}
use Rattle.propagation.specs.declared.step.Step.{Step}
use Rattle.propagation.specs.LeastTimes.{asked, least_times, pushed_at, pushed_often}
use Rattle.propagation.specs.Problems.{DelayProblem, earliest_at, minutes, steps_with}
use Rattle.propagation.proofs.Later.{latest_reached}
use Rattle.propagation.proofs.Rounds.{first, into_are, next, no_step}
use Rattle.propagation.specs.declared.times.TheConstants.{LATEST}

module _ (problem : DelayProblem) (steps : List Step) (each : length problem.earliest ≡ length problem.events)
    (soon : All (λ time. time ≤ 2000000000) problem.earliest)
    (short : All (λ step. minutes step ≤ 2000000000) steps)
    (from : All (λ step. step.from < length problem.events) steps) where
  abbrev Below : ℕ → List ℕ → Type 0
  Below k times = All (λ time. time ≤ 2000000000 + k * 2000000000) times

  pushed_below : (k : ℕ) (times : List ℕ) → length times ≡ length problem.events → Below k times
      → (event : ℕ) → event < length problem.events
      → pushed_at problem steps times event ≤ 2000000000 + (k + 1) * 2000000000
  pushed_below k times long below event within =
      by (latest_reached (earliest_at problem event) (map (asked times) (filter (λ step. step.to == event) steps)))
    where
      by : (pushed_at problem steps times event ≡ earliest_at problem event)
          ⊎ Contains (map (asked times) (filter (λ step. step.to == event) steps)) (pushed_at problem steps times event)
          → pushed_at problem steps times event ≤ 2000000000 + (k + 1) * 2000000000
      by (inl is) = grind arith
      by (inr there) =
          let xs = filter (λ step. step.to == event) steps in
          let inside : there.0 < length xs = omega (arith, length-map xs (asked times), there.1) in
          let step = get_or xs there.0 no_step in
          let is = into_are problem steps event there.0 inside in
          let value : asked times step ≡ pushed_at problem steps times event =
          sym (get_or-map (asked times) xs there.0 no_step (pushed_at problem steps times event) inside) ∙ there.2 in
          let few = All-contains (λ step. minutes step ≤ 2000000000) steps step short is.0 in
          let start = All-contains (λ step. step.from < length problem.events) steps step from is.0 in
          let tail = below step.from 0 (omega (arith, start, long)) in
          omega (arith, value, few, tail)

  long : (k : ℕ) → length (pushed_often problem steps k) ≡ length problem.events
  long zero = ap (λ (times : List ℕ). length times) (first problem steps) ∙ each
  long (suc k) = grind (arith, next, length-map-range_with_len)

  rounds_below : (k : ℕ) → Below k (pushed_often problem steps k)
  rounds_below zero i d within = grind (arith, get_or, first, long)
  rounds_below (suc k) i d within =
      let times = pushed_often problem steps k in
      let inside : i < length problem.events = omega (arith, within, long (suc k)) in
      let here : 0 + i ≡ i = omega arith in
      let value = ap (λ times. get_or times i d) (next problem steps k)
      ∙ get_or-map-range_with_len (pushed_at problem steps times) 0 (length problem.events) i i d inside here in
      let below = pushed_below k times (long k) (rounds_below k) i inside in
      omega (arith, value, below)

pub least_small : (problem : DelayProblem) (kept : List Activity)
    → length problem.earliest ≡ length problem.events → length problem.events ≤ 100000
    → All (λ time. time ≤ 2000000000) problem.earliest
    → All (λ step. minutes step ≤ 2000000000) (steps_with problem kept)
    → All (λ step. step.from < length problem.events) (steps_with problem kept)
    → All (λ time. time ≤ LATEST) (least_times problem kept)
unfolding least_times
least_small problem kept each few soon short from i d within = grind (arith, rounds_below)
