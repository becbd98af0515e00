-- What a cycle takes in a timetable is a multiple of the period.
use Rattle.plan_num.proofs.Common.{◌≡◌, ℕ, ℤ, pos, negsuc, suc, neg_ℤ, ◌+◌, ◌*◌, ◌/◌, ◌%◌, ◌<◌}
use Rattle.plan_num.proofs.Common.{◌+ℤ◌, ◌-ℤ◌, ◌≤ℤ◌, List, [], ◌∷◌, length}
use Rattle.plan_num.proofs.Common.{true, false, All, All-head, All-tail, All-get_or, ap, sym, subst}
use Rattle.plan_num.proofs.Common.{◌∙◌, arith, ints, unsigned_abs, if◌then◌else◌, mod-add-div', Bool}
use Rattle.plan_num.proofs.Common.{get_or_from_slice_get, option_map}
use Rattle.std.proofs.lemmas.Option.{slice_get-map, slice_get_within}
use Rattle.std.proofs.Common.{◌*ℤ◌}
use Rattle.std.specs.Int.{int_rem_euclid}
use Rattle.std.proofs.Math.Nat.{mod-lt}
use lib.IntN.{*ℤ-zero}
use Rattle.pesp.specs.Timetables.{IsActivity, slack, tension, time_of}
use Rattle.pesp.proofs.LeastTensions.{tension_least}
use Rattle.pesp_judge.specs.declared.step.Step.{Step}
use Rattle.pesp_judge.specs.Weighted.{WeightedProblem, slack_in}
use Rattle.pesp_judge.specs.Cycles.{IsCycle, IsStep, Walks, along, around, lower_sum, sign}
use Rattle.pesp_judge.specs.Cycles.{slack_at, slacks_of}
use Rattle.pesp_judge.proofs.Products.{over_sum, over_neg, one_times, minus_times}
use Rattle.pesp_judge.proofs.Slacks.{nothing}

-- whole periods between two numbers
abbrev pub Apart : ℕ → ℤ → ℤ → Type 0
Apart period one other = (q : ℤ) × (one ≡ other +ℤ pos period *ℤ q)

pub apart_itself : (period : ℕ) (one other : ℤ) → one ≡ other → Apart period one other
apart_itself period one other same = (pos 0, omega (arith, ints, *ℤ-zero (pos period)))

pub apart_sum : (period : ℕ) (a b c d : ℤ) → Apart period a b → Apart period c d
    → Apart period (a +ℤ c) (b +ℤ d)
apart_sum period a b c d p q =
    let parts = over_sum (pos period) p.0 q.0 in (p.0 +ℤ q.0, omega (arith, ints, parts, p.1, q.1))

pub apart_neg : (period : ℕ) (a b : ℤ) → Apart period a b → Apart period (neg_ℤ a) (neg_ℤ b)
apart_neg period a b p =
    let turned = over_neg (pos period) p.0 in (neg_ℤ p.0, omega (arith, ints, turned, p.1))

-- a remainder and its number
rem_of : (n period : ℕ) → 0 < period → pos n ≡ pos (n % period) +ℤ pos period *ℤ pos (n / period)
rem_of n period some =
    let whole = mod-add-div' n period in
    let turned : period * (n / period) ≡ n / period * period = grind arith in
    omega (arith, ints, whole, turned)

pub rem_apart : (period : ℕ) (z : ℤ) → 0 < period → Apart period z (int_rem_euclid z (pos period))
rem_apart period (pos n) some = (pos (n / period), rem_of n period some)
rem_apart period (negsuc n) some =
    let whole = mod-add-div' n period in
    let small = mod-lt n some in
    let more : period * suc (n / period) ≡ period * (n / period) + period = grind arith in
    let turned : period * (n / period) ≡ n / period * period = grind arith in
    (negsuc (n / period), omega (arith, ints, whole, small, more, turned))

pub rem_small : (period : ℕ) (z : ℤ) → 0 < period
    → (pos 0 ≤ℤ int_rem_euclid z (pos period)) × (int_rem_euclid z (pos period) ≤ℤ pos period)
rem_small period (pos n) some =
    let small = mod-lt n some in (omega (arith, ints), omega (arith, ints, small))
rem_small period (negsuc n) some = (omega (arith, ints), omega (arith, ints))

-- the tension of an activity leads from the one time to the other, but for whole periods
pub tension_apart : (period : ℕ) (lower : ℤ) (from to : ℕ) → from < period → to < period
    → pos 0 ≤ℤ lower → Apart period (tension period lower from to) (pos to -ℤ pos from)
tension_apart period lower from to from_in to_in low =
    let is = tension_least period lower from to from_in to_in low in
    let minutes = unsigned_abs (tension period lower from to) in
    let whole = mod-add-div' (from + minutes) period in
    let leads = is.1.leads in
    let turned : period * ((from + minutes) / period) ≡ (from + minutes) / period * period =
    grind arith in
    (pos ((from + minutes) / period), omega (arith, ints, whole, leads, turned, is.0))

-- one step along or against an activity
one_way : (period : ℕ) (forward : Bool) (slack lower : ℤ) (times : List ℕ)
    (from to start end : ℕ) → start ≡ (if forward then from else to)
    → end ≡ (if forward then to else from)
    → Apart period (lower +ℤ slack) (pos (time_of times to) -ℤ pos (time_of times from))
    → Apart period ((if forward then pos 1 else neg_ℤ (pos 1)) *ℤ slack
    +ℤ (if forward then pos 1 else neg_ℤ (pos 1)) *ℤ lower)
    (pos (time_of times end) -ℤ pos (time_of times start))
one_way period true slack lower times from to start end starts ends apart =
    let a = ap (time_of times) starts in
    let b = ap (time_of times) ends in
    (apart.0, omega (arith, ints, a, b, apart.1, one_times slack, one_times lower))
one_way period false slack lower times from to start end starts ends apart =
    let a = ap (time_of times) starts in
    let b = ap (time_of times) ends in
    let turned = apart_neg period _ _ apart in
    (turned.0, omega (arith, ints, a, b, turned.1, minus_times slack, minus_times lower))

module _ (weighted : WeightedProblem) (times : List ℕ)
    (within : All (λ time. time < weighted.period) times)
    (sound : All (λ it. IsActivity (length times) it.activity) weighted.activities) where
  abbrev slacks : List ℤ
  slacks = slacks_of weighted times

  at : ℕ → ℤ
  at event = pos (time_of times event)

  -- the slack of a step is that of its activity
  pub slack_is : (step : Step) (is : IsStep weighted step)
      → slack_at slacks step ≡ slack_in weighted.period times is.it.activity
  slack_is step is =
      get_or_from_slice_get slacks step.place (slack_in weighted.period times is.it.activity) (pos 0)
      (slice_get-map (λ it. slack_in weighted.period times it.activity) weighted.activities
      step.place ∙ ap (option_map (λ it. slack_in weighted.period times it.activity)) is.there)

  -- its activity is sound
  pub sound_at : (step : Step) (is : IsStep weighted step)
      → IsActivity (length times) is.it.activity
  sound_at step is =
      subst (λ it. IsActivity (length times) it.activity)
      (get_or_from_slice_get weighted.activities step.place is.it nothing is.there)
      (sound step.place nothing (slice_get_within weighted.activities step.place is.it is.there))

  -- what a step takes leads from where it starts to where it ends, but for whole periods
  step_apart : (step : Step) → IsStep weighted step
      → Apart weighted.period (sign step *ℤ slack_at slacks step +ℤ sign step *ℤ step.lower)
      (pos (time_of times step.end) -ℤ pos (time_of times step.start))
  step_apart step is =
      let activity = is.it.activity in
      let sound = sound_at step is in
      let time_in : (event : ℕ) → event < length times → time_of times event < weighted.period =
      λ event some. All-get_or (λ time. time < weighted.period) times event 0 some within in
      let apart = tension_apart weighted.period activity.lower (time_of times activity.from)
      (time_of times activity.to) (time_in activity.from sound.from)
      (time_in activity.to sound.to) sound.low in
      subst (λ slack. Apart weighted.period (sign step *ℤ slack +ℤ sign step *ℤ step.lower)
      (pos (time_of times step.end) -ℤ pos (time_of times step.start))) (sym (slack_is step is))
      (subst (λ lower. Apart weighted.period (sign step *ℤ
      slack_in weighted.period times activity +ℤ sign step *ℤ lower)
      (pos (time_of times step.end) -ℤ pos (time_of times step.start))) (sym is.lower)
      (one_way weighted.period step.forward (slack_in weighted.period times activity)
      activity.lower times activity.from activity.to step.start step.end is.start is.end apart))

  pub walk_apart : (steps : List Step) (from to : ℕ) → All (IsStep weighted) steps
      → Walks from steps to → Apart weighted.period (around slacks steps)
      (pos (time_of times to) -ℤ pos (time_of times from))
  unfolding along lower_sum Walks
  walk_apart [] from to are walks =
      let same = ap (time_of times) walks in
      apart_itself weighted.period (pos 0) (pos (time_of times to) -ℤ pos (time_of times from))
      (omega (arith, ints, same))
  walk_apart (step ∷ more) from to are walks =
      let first = step_apart step (All-head (IsStep weighted) step more are) in
      let rest = walk_apart more step.end to (All-tail (IsStep weighted) step more are) walks.1 in
      let same = ap (time_of times) walks.0 in
      let whole = apart_sum weighted.period _ _ _ _ first rest in
      (whole.0, omega (arith, ints, same, whole.1))

  -- a cycle takes whole periods
  pub cycle_apart : (steps : List Step) → IsCycle weighted steps
      → (q : ℤ) × (around slacks steps ≡ pos weighted.period *ℤ q)
  cycle_apart steps is =
      let whole = walk_apart steps is.begin is.begin is.steps_are is.closed in
      (whole.0, omega (arith, ints, whole.1))
