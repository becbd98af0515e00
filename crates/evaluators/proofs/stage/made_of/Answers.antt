use Rattle.plan_num.proofs.Common.{sym, subst, err_from_is_err_and}
use Rattle.evaluators.specs.Bounds.{IsSmall}
use Rattle.evaluators.proofs.PrintableStatistic.{statistic_small}
use Rattle.evaluators.proofs.StageParts.{stage_made, stage_refused}
use Rattle.evaluators.proofs.stage.made_of.Goals as goal

pub returns-in_err-statistic : goal.returns-in_err-statistic
returns-in_err-statistic c =
    let p = err_from_is_err_and c.from_residual.result c.from_residual.ensures.1 in
    rw (p.1, p.2) (stage_refused c.args.bundle.now c.in_err-statistic.field-0.0
    c.in_err-statistic.ensures)

pub statistic_made-requires : goal.statistic_made-requires
statistic_made-requires c =
    let read = c.in_ok-statistic.ensures in
    subst IsSmall (sym read.1)
    (statistic_small c.args.bundle.now c.requires.stage c.requires.fits read.0)

pub returns : goal.returns
returns c =
    let read = c.in_ok-statistic.ensures in
    stage_made c.args.bundle.now c.in_ok-statistic.statistic _ read.0 read.1
    c.in_ok-statistic_made.ensures
