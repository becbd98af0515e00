use Rattle.delay_management.proofs.DispositionReads.{right_given}
use Rattle.delay_management.proofs.stage.make_disposition.Goals as goal

pub returns-clause-right : goal.returns-clause-right
returns-clause-right g c =
    right_given c.args.bundle.now c.disposed.result c.requires.stage c.requires.fits c.disposed.ensures
