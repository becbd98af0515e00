-- The cut of a cycle holds in each timetable.
use Rattle.plan_num.proofs.Common.{◌≡◌, ℕ, ℤ, pos, negsuc, neg_ℤ, ◌<◌, ◌+ℤ◌, ◌-ℤ◌, ◌≤ℤ◌, List, []}
use Rattle.plan_num.proofs.Common.{◌∷◌, true, false, Bool, All, All-head, All-tail, refl, ap, sym, subst}
use Rattle.plan_num.proofs.Common.{◌∙◌, arith, ints, if◌then◌else◌}
use Rattle.std.proofs.Common.{◌*ℤ◌}
use lib.IntN.{*ℤ_comm, *ℤ-zero}
use Rattle.pesp_judge.specs.declared.step.Step.{Step}
use Rattle.pesp_judge.specs.Cycles.{along, around, cut_count, flipped_sum, lower_sum, sign}
use Rattle.pesp_judge.specs.Cycles.{slack_at}
use Rattle.pesp_judge.proofs.Turns.{rem_apart, rem_small}
use Rattle.std.specs.Int.{int_rem_euclid}
use Rattle.pesp_judge.proofs.Products.{grows, over_neg, over_sum, neg_over, one_times, minus_times}

-- the slack of a step lies between 0 and its span
pub record IsWithin (slacks : List ℤ) (step : Step) : Type 0 where
  pub low : pos 0 ≤ℤ slack_at slacks step
  pub high : slack_at slacks step ≤ℤ step.span

-- what steps that add take together, and those that take away, each from 0 or from its span down
pub record Sides (period turned : ℤ) (slacks : List ℤ) (steps : List Step) : Type 0 where
  pub plus : ℤ
  pub minus : ℤ
  pub plus_low : pos 0 ≤ℤ plus
  pub minus_low : pos 0 ≤ℤ minus
  pub apart : plus -ℤ minus ≡ along sign slacks steps -ℤ flipped_sum sign steps
  pub cut : along (cut_count period turned) slacks steps
      ≡ (period -ℤ turned) *ℤ plus +ℤ turned *ℤ minus
      +ℤ flipped_sum (cut_count period turned) steps

-- one step adds or takes away so much
pub record Side (period turned slack span signed counted : ℤ) (flipped : Bool) : Type 0 where
  pub plus : ℤ
  pub minus : ℤ
  pub plus_low : pos 0 ≤ℤ plus
  pub minus_low : pos 0 ≤ℤ minus
  pub apart : plus -ℤ minus ≡ signed *ℤ slack -ℤ (if flipped then signed *ℤ span else pos 0)
  pub cut : counted *ℤ slack ≡ (period -ℤ turned) *ℤ plus +ℤ turned *ℤ minus
      +ℤ (if flipped then counted *ℤ span else pos 0)

-- a flipped step counts the other way round, from its span down
turned_round : (weight slack span : ℤ)
    → neg_ℤ weight *ℤ slack ≡ weight *ℤ (span -ℤ slack) +ℤ neg_ℤ weight *ℤ span
turned_round weight slack span =
    let parts = over_sum weight span (neg_ℤ slack) in
    let a = over_neg weight slack in
    let b = neg_over weight slack in
    let d = neg_over weight span in omega (arith, ints, parts, a, b, d)

no_times : (a b : ℤ) → b ≡ pos 0 → a *ℤ b ≡ pos 0
no_times a b none = ap (λ z. a *ℤ z) none ∙ *ℤ-zero a

side_of : (period turned slack span : ℤ) (forward flipped : Bool) → pos 0 ≤ℤ slack
    → slack ≤ℤ span
    → Side period turned slack span (if forward then pos 1 else neg_ℤ (pos 1))
    (if flipped then neg_ℤ (if forward then (if flipped then turned else (period -ℤ turned)) else
    (if flipped then (period -ℤ turned) else turned)) else
    (if forward then (if flipped then turned else (period -ℤ turned)) else
    (if flipped then (period -ℤ turned) else turned))) flipped
side_of period turned slack span true false low high =
    record {
      plus = slack;
      minus = pos 0;
      plus_low = low;
      minus_low = omega (arith, ints);
      apart = omega (arith, ints, one_times slack);
      cut = omega (arith, ints, no_times turned (pos 0) refl);
    }
side_of period turned slack span true true low high =
    record {
      plus = pos 0;
      minus = span -ℤ slack;
      plus_low = omega (arith, ints);
      minus_low = omega (arith, ints, low, high);
      apart = omega (arith, ints, one_times slack, one_times span);
      cut = omega (
        arith,
        ints,
        no_times (period -ℤ turned) (pos 0) refl,
        turned_round turned slack span,
      );
    }
side_of period turned slack span false false low high =
    record {
      plus = pos 0;
      minus = slack;
      plus_low = omega (arith, ints);
      minus_low = low;
      apart = omega (arith, ints, minus_times slack);
      cut = omega (arith, ints, no_times (period -ℤ turned) (pos 0) refl);
    }
side_of period turned slack span false true low high =
    record {
      plus = span -ℤ slack;
      minus = pos 0;
      plus_low = omega (arith, ints, low, high);
      minus_low = omega (arith, ints);
      apart = omega (arith, ints, minus_times slack, minus_times span);
      cut = omega (
        arith,
        ints,
        no_times turned (pos 0) refl,
        turned_round (period -ℤ turned) slack span,
      );
    }

pub sides_of : (period turned : ℤ) (slacks : List ℤ) (steps : List Step)
    → All (IsWithin slacks) steps → Sides period turned slacks steps
unfolding along flipped_sum
sides_of period turned slacks [] within =
    record {
      plus = pos 0;
      minus = pos 0;
      plus_low = omega (arith, ints);
      minus_low = omega (arith, ints);
      apart = omega (arith, ints);
      cut = omega (arith, ints, no_times (period -ℤ turned) (pos 0) refl, no_times turned (pos 0) refl);
    }
sides_of period turned slacks (step ∷ more) within =
    let here = All-head (IsWithin slacks) step more within in
    let first = side_of period turned (slack_at slacks step) step.span step.forward step.flipped
    here.low here.high in
    let rest = sides_of period turned slacks more (All-tail (IsWithin slacks) step more within) in
    record {
      plus = first.plus +ℤ rest.plus;
      minus = first.minus +ℤ rest.minus;
      plus_low = omega (arith, ints, first.plus_low, rest.plus_low);
      minus_low = omega (arith, ints, first.minus_low, rest.minus_low);
      apart = omega (arith, ints, first.apart, rest.apart);
      cut = omega (
        arith,
        ints,
        first.cut,
        rest.cut,
        over_sum (period -ℤ turned) first.plus rest.plus,
        over_sum turned first.minus rest.minus,
      );
    }

-- what adds and what takes away differ by some minutes and whole periods
pub cut_least : (period turned plus minus q : ℤ) → pos 0 ≤ℤ turned → turned ≤ℤ period
    → pos 0 ≤ℤ plus → pos 0 ≤ℤ minus → plus -ℤ minus ≡ turned +ℤ period *ℤ q
    → (turned *ℤ (period -ℤ turned)) ≤ℤ ((period -ℤ turned) *ℤ plus +ℤ turned *ℤ minus)
cut_least period turned plus minus (pos n) low high plus_low minus_low apart =
    let some : pos 0 ≤ℤ period = omega (arith, ints, low, high) in
    let left : pos 0 ≤ℤ (period -ℤ turned) = omega (arith, ints, high) in
    let whole = grows period (pos 0) (pos n) some (omega (arith, ints)) in
    let enough : turned ≤ℤ plus =
    omega (arith, ints, apart, whole, minus_low, no_times period (pos 0) refl) in
    let most = grows (period -ℤ turned) turned plus left enough in
    let rest = grows turned (pos 0) minus low minus_low in
    omega (
      arith,
      ints,
      most,
      rest,
      no_times turned (pos 0) refl,
      *ℤ_comm turned (period -ℤ turned),
    )
cut_least period turned plus minus (negsuc n) low high plus_low minus_low apart =
    let some : pos 0 ≤ℤ period = omega (arith, ints, low, high) in
    let left : pos 0 ≤ℤ (period -ℤ turned) = omega (arith, ints, high) in
    let whole = grows period (negsuc n) (negsuc 0) some (omega (arith, ints)) in
    let one = *ℤ_comm period (negsuc 0) ∙ minus_times period in
    let enough : (period -ℤ turned) ≤ℤ minus =
    omega (arith, ints, apart, whole, one, plus_low) in
    let most = grows turned (period -ℤ turned) minus low enough in
    let rest = grows (period -ℤ turned) (pos 0) plus left plus_low in
    omega (arith, ints, most, rest, no_times (period -ℤ turned) (pos 0) refl)

-- the cut of a cycle
pub cut_holds : (period : ℕ) (turned right : ℤ) (slacks : List ℤ) (steps : List Step) → 0 < period
    → All (IsWithin slacks) steps → (q : ℤ) → around slacks steps ≡ pos period *ℤ q
    → turned ≡ int_rem_euclid (pos 0 -ℤ (lower_sum steps +ℤ flipped_sum sign steps)) (pos period)
    → right ≡ turned *ℤ (pos period -ℤ turned) +ℤ flipped_sum (cut_count (pos period) turned) steps
    → right ≤ℤ along (cut_count (pos period) turned) slacks steps
cut_holds period turned right slacks steps some within q around_is turned_is right_is =
    let base = pos 0 -ℤ (lower_sum steps +ℤ flipped_sum sign steps) in
    let sides = sides_of (pos period) turned slacks steps within in
    let rest = rem_apart period base some in
    let small = rem_small period base some in
    let low : pos 0 ≤ℤ turned = subst (λ z. pos 0 ≤ℤ z) (sym turned_is) small.0 in
    let high : turned ≤ℤ pos period = subst (λ z. z ≤ℤ pos period) (sym turned_is) small.1 in
    let whole = over_sum (pos period) q rest.0 in
    let apart : sides.plus -ℤ sides.minus ≡ turned +ℤ pos period *ℤ (q +ℤ rest.0) =
    omega (arith, ints, sides.apart, around_is, rest.1, turned_is, whole) in
    let least = cut_least (pos period) turned sides.plus sides.minus (q +ℤ rest.0) low high
    sides.plus_low sides.minus_low apart in
    omega (arith, ints, least, sides.cut, right_is)
