-- Sums over steps, and walks of them, one step more.
use Rattle.plan_num.proofs.Common.{◌≡◌, ℕ, ℤ, pos, ◌+◌, ◌<◌, ◌+ℤ◌, List, [], ◌∷◌, ◌++◌, length, take}
use Rattle.plan_num.proofs.Common.{get_or, refl, sym, arith, ints, take_more, false}
use Rattle.plan_num.proofs.Common.{if◌then◌else◌, ◌∙◌}
use Rattle.std.proofs.Common.{◌*ℤ◌}
use Rattle.pesp_judge.specs.declared.step.Step.{Step}
use Rattle.pesp_judge.specs.Cycles.{Walks, along, flipped_sum, lower_sum, sign, slack_at}

abbrev pub no_step : Step
no_step =
    record {
      place = 0;
      forward = false;
      flipped = false;
      start = 0;
      end = 0;
      lower = pos 0;
      span = pos 0;
    }

pub along_push : (counts : Step → ℤ) (slacks : List ℤ) (steps : List Step) (step : Step)
    → along counts slacks (steps ++ step ∷ [])
    ≡ along counts slacks steps +ℤ counts step *ℤ slack_at slacks step
unfolding along
along_push counts slacks [] step = omega (arith, ints)
along_push counts slacks (first ∷ more) step =
    let rest = along_push counts slacks more step in omega (arith, ints)

pub lower_push : (steps : List Step) (step : Step)
    → lower_sum (steps ++ step ∷ []) ≡ lower_sum steps +ℤ sign step *ℤ step.lower
unfolding lower_sum
lower_push [] step = omega (arith, ints)
lower_push (first ∷ more) step = let rest = lower_push more step in omega (arith, ints)

pub flipped_push : (counts : Step → ℤ) (steps : List Step) (step : Step)
    → flipped_sum counts (steps ++ step ∷ []) ≡ flipped_sum counts steps
    +ℤ (if step.flipped then counts step *ℤ step.span else pos 0)
unfolding flipped_sum
flipped_push counts [] step = omega (arith, ints)
flipped_push counts (first ∷ more) step =
    let rest = flipped_push counts more step in omega (arith, ints)

module _ (steps : List Step) (index : ℕ) (some : index < length steps) where
  pub along_more : (counts : Step → ℤ) (slacks : List ℤ)
      → along counts slacks (take (index + 1) steps)
      ≡ along counts slacks (take index steps)
      +ℤ counts (get_or steps index no_step) *ℤ slack_at slacks (get_or steps index no_step)
  along_more counts slacks =
      rw (take_more steps index no_step some)
      (along_push counts slacks (take index steps) (get_or steps index no_step))

  pub lower_more : lower_sum (take (index + 1) steps) ≡ lower_sum (take index steps)
      +ℤ sign (get_or steps index no_step) *ℤ (get_or steps index no_step).lower
  lower_more = rw (take_more steps index no_step some)
      (lower_push (take index steps) (get_or steps index no_step))

  pub flipped_more : (counts : Step → ℤ) → flipped_sum counts (take (index + 1) steps)
      ≡ flipped_sum counts (take index steps) +ℤ (if (get_or steps index no_step).flipped
      then counts (get_or steps index no_step) *ℤ (get_or steps index no_step).span else pos 0)
  flipped_more counts =
      rw (take_more steps index no_step some)
      (flipped_push counts (take index steps) (get_or steps index no_step))

pub walks_push : (from : ℕ) (steps : List Step) (at : ℕ) (step : Step) → Walks from steps at
    → step.start ≡ at → Walks from (steps ++ step ∷ []) step.end
unfolding Walks
walks_push from [] at step walks is = (is ∙ sym walks, refl)
walks_push from (first ∷ more) at step walks is =
    (walks.0, walks_push first.end more at step walks.1 is)

pub walks_more : (from : ℕ) (steps : List Step) (index at : ℕ) → index < length steps
    → Walks from (take index steps) at → (get_or steps index no_step).start ≡ at
    → Walks from (take (index + 1) steps) (get_or steps index no_step).end
walks_more from steps index at some walks is =
    rw (take_more steps index no_step some)
    (walks_push from (take index steps) at (get_or steps index no_step) walks is)

pub walks_none : (from : ℕ) → Walks from [] from
unfolding Walks
walks_none from = refl
