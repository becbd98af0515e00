use Rattle.plan_num.proofs.Common.{◌≤◌, ◌∙◌, ap, sym, subst}
use Rattle.giv_files.specs.declared.key.Key.TheVariants as key
use Rattle.giv_files.proofs.Common.{amount}
use Rattle.delay_management.proofs.InputsSound.{turnover_few}
use Rattle.delay_management.proofs.inputs.turnover_of.Goals as goal

pub returns-clause-few : goal.returns-clause-few
returns-clause-few c =
    subst (λ minutes. minutes ≤ 10000)
    (sym (c.amount.ensures.amount ∙ ap (λ settings. amount settings key.VsTurnOverTime) c.settings.ensures))
    (turnover_few c.args.bundle.now c.requires.stage c.requires.fits)
