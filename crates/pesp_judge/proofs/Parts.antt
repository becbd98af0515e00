-- What the part of a split says of the slacks of its cycle.
use Rattle.plan_num.proofs.Common.{ℕ, subst, true, false, MatchBool}
use Rattle.plan_num.proofs.Common.{◌≡◌, ℤ, pos, neg_ℤ, ◌-ℤ◌, ◌≤ℤ◌, List, [], ◌∷◌, arith, ints}
use Rattle.std.proofs.Common.{◌*ℤ◌}
use Rattle.pesp_judge.specs.declared.step.Step.{Step}
use Rattle.pesp_judge.specs.declared.region.Split.{Split}
use Rattle.pesp_judge.specs.Regions.{LiesInPart, steps_at, taken}
use Rattle.pesp_judge.specs.Cycles.{along, around, lower_sum, sign, slack_at}
use Rattle.pesp_judge.proofs.Products.{neg_over}

pub along_neg : (slacks : List ℤ) (steps : List Step)
    → along (λ step. neg_ℤ (sign step)) slacks steps ≡ neg_ℤ (along sign slacks steps)
unfolding along
along_neg slacks [] = omega (arith, ints)
along_neg slacks (step ∷ more) =
    let rest = along_neg slacks more in
    let first = neg_over (sign step) (slack_at slacks step) in omega (arith, ints)

pub at_least : (slacks : List ℤ) (steps : List Step) (least right : ℤ)
    → right ≡ least -ℤ lower_sum steps → least ≤ℤ around slacks steps
    → right ≤ℤ along sign slacks steps
at_least slacks steps least right is more = omega (arith, ints)

pub at_most : (slacks : List ℤ) (steps : List Step) (most right : ℤ)
    → right ≡ lower_sum steps -ℤ most → around slacks steps ≤ℤ most
    → right ≤ℤ along (λ step. neg_ℤ (sign step)) slacks steps
at_most slacks steps most right is less =
    let turned = along_neg slacks steps in omega (arith, ints)

pub part_at_least : (period : ℕ) (cycles : List (List Step)) (slacks : List ℤ) (split : Split)
    (steps : List Step) → steps_at cycles split.cycle ≡ steps → split.least ≡ true
    → LiesInPart period cycles slacks split
    → (pos period *ℤ split.periods) ≤ℤ around slacks steps
part_at_least period cycles slacks split steps are least lies =
    subst (λ steps. (pos period *ℤ split.periods) ≤ℤ around slacks steps) are
    (subst (λ least. MatchBool least
    ((pos period *ℤ split.periods) ≤ℤ taken cycles slacks split)
    (taken cycles slacks split ≤ℤ (pos period *ℤ split.periods))) least lies)

pub part_at_most : (period : ℕ) (cycles : List (List Step)) (slacks : List ℤ) (split : Split)
    (steps : List Step) → steps_at cycles split.cycle ≡ steps → split.least ≡ false
    → LiesInPart period cycles slacks split
    → around slacks steps ≤ℤ (pos period *ℤ split.periods)
part_at_most period cycles slacks split steps are least lies =
    subst (λ steps. around slacks steps ≤ℤ (pos period *ℤ split.periods)) are
    (subst (λ least. MatchBool least
    ((pos period *ℤ split.periods) ≤ℤ taken cycles slacks split)
    (taken cycles slacks split ≤ℤ (pos period *ℤ split.periods))) least lies)
