use Rattle.evaluators.proofs.StatisticReads.{right_given}
use Rattle.evaluators.proofs.stage.make_statistic.Goals as goal

pub returns-clause-right : goal.returns-clause-right
returns-clause-right g c = right_given c.args.bundle.now c.made_of.result c.requires.stage
    c.requires.fits c.made_of.ensures
