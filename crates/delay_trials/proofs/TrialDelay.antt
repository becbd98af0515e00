-- How late arrivals are behind decisions: never below 0, and not too much.
use Rattle.plan_num.proofs.Common.{◌≡◌, ℕ, ℤ, suc, ◌+◌, ◌*◌, ◌<◌, ◌≤◌, ◌+ℤ◌, ◌≤ℤ◌, pos, cond, Bool}
use Rattle.plan_num.proofs.Common.{true, false, List, [], ◌∷◌, length, All, subst, arith, filter}
use Rattle.plan_num.proofs.Common.{zip, fold, ints}
use Rattle.propagation.specs.declared.day_event.DayEvent.{DayEvent}
use Rattle.propagation.specs.declared.step.Activity.{Activity}
use Rattle.propagation.proofs.Common.{IsLeast, time_at, arrives, delay_at, lateness, DelayProblem}
use Rattle.propagation.proofs.Common.{earliest_at, planned_at}

record Within (sum : ℤ) (count : ℕ) : Type 0 where
  least : pos 0 ≤ℤ sum
  most : sum ≤ℤ pos (count * 600000000000)

sums_within : (events : List DayEvent) (times : List ℕ) (sum : ℤ) (count : ℕ) → length times ≡ length events
    → ((k : ℕ) → k < length events → planned_at events k ≤ time_at times k)
    → All (λ time. time ≤ 600000000000) times → Within sum count
    → Within (fold (λ sum timed. sum +ℤ lateness timed) sum (filter arrives (zip events times))) (count + length events)
sums_within [] times sum count each late small within = grind arith
sums_within (event ∷ events) [] sum count each late small within = absurd (omega (arith, each))
sums_within (event ∷ events) (time ∷ times) sum count each late small within =
    by event.arrives
    (λ sum here. sums_within events times sum (count + 1) (omega (arith, each))
    (λ k inside. late (suc k) (omega (arith, inside))) (λ k d inside. small (suc k) d (omega (arith, inside))) here)
  where
    here : event.time ≤ time
    here = late 0 (omega arith)

    few : time ≤ 600000000000
    few = small 0 0 (omega arith)

    by : (is : Bool) → ((sum : ℤ) → Within sum (count + 1)
        → Within (fold (λ sum timed. sum +ℤ lateness timed) sum (filter arrives (zip events times)))
        ((count + 1) + length events))
        → Within (fold (λ sum timed. sum +ℤ lateness timed) sum
        (cond is ((event, time) ∷ filter arrives (zip events times)) (filter arrives (zip events times))))
        (count + suc (length events))
    by true rest =
        let least = within.least in let most = within.most in
        more (rest (sum +ℤ lateness (event, time)) (record {
          least = omega (arith, ints, least, here);
          most = omega (arith, ints, most, few);
        }))
      where
        more : {sum : ℤ} → Within sum ((count + 1) + length events) → Within sum (count + suc (length events))
        more w = let n : (count + 1) + length events ≡ count + suc (length events) = omega arith in subst (Within _) n w
    by false rest =
        let least = within.least in let most = within.most in
        more (rest sum (record { least = least; most = omega (arith, ints, most) }))
      where
        more : {sum : ℤ} → Within sum ((count + 1) + length events) → Within sum (count + suc (length events))
        more w = let n : (count + 1) + length events ≡ count + suc (length events) = omega arith in subst (Within _) n w

module _ (problem : DelayProblem) (kept : List Activity) (times : List ℕ) (least : IsLeast problem kept times)
    (small : All (λ time. time ≤ 600000000000) times) (few : length problem.events ≤ 100000)
    (late : (event : ℕ) → event < length problem.events
    → planned_at problem.events event ≤ earliest_at problem event) where
  all_within : Within (delay_at problem.events times) (0 + length problem.events)
  all_within =
      sums_within problem.events times (pos 0) 0 least.feasible.each
      (λ k inside. let one = late k inside in let two = least.feasible.earliest k inside in omega (arith, one, two))
      small (record { least = omega (arith, ints); most = omega (arith, ints) })

  pub delay_least : pos 0 ≤ℤ delay_at problem.events times
  delay_least = all_within.least

  pub delay_most : delay_at problem.events times ≤ℤ pos 60000000000000000
  delay_most = let most = all_within.most in omega (arith, ints, most, few)
