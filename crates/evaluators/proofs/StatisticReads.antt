-- The file of the statistic that is made, read again, is right.
use Rattle.plan_num.proofs.Common.{◌≡◌, Ok, Err, Result, arith, IfOk}
use Rattle.giv_files.specs.declared.made.Made.{Made}
use Rattle.giv_files.proofs.Common.{BundleParts, Fits, StageGives, made_unless, none_unless}
use Rattle.tables.specs.declared.refusal.StageFault.{StageFault}
use Rattle.giv_files.specs.declared.stage.Stage.TheVariants as stage
use Rattle.plan_num.proofs.ReadBack.{number_back}
use Rattle.evaluators.specs.RightStatistic.{StatisticIsRight}
use Rattle.evaluators.specs.StatisticStage.{statistic_stage}
use Rattle.evaluators.proofs.PrintableStatistic.{statistic_small}
use Rattle.evaluators.proofs.TextRows.{text_rows, value_printable}

pub statistic_is_right : (bundle : BundleParts) (made : Made) → bundle.stage ≡ stage.Statistic
    → Fits bundle → statistic_stage bundle ≡ Ok made → StatisticIsRight bundle made
unfolding statistic_stage
statistic_is_right bundle made own fits is =
    grind (
      arith,
      none_unless,
      statistic_small,
      made_unless,
      text_rows,
      value_printable,
      number_back,
    )

-- what a call gives that meets the stage
pub right_given : (bundle : BundleParts) (result : Result Made StageFault)
    → bundle.stage ≡ stage.Statistic → Fits bundle → StageGives (statistic_stage bundle) result
    → IfOk result (StatisticIsRight bundle)
right_given bundle (Ok made) own fits given = statistic_is_right bundle made own fits given
right_given bundle (Err fault) own fits given = tt
