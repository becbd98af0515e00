use Rattle.giv_files.proofs.Common.{right_given}
use Rattle.line_pool.proofs.CostReads.{costs_are_right}
use Rattle.line_pool.proofs.stage.make_cost.Goals as goal

pub returns-clause-right : goal.returns-clause-right
returns-clause-right g c =
    right_given _ c.costs_of_bundle.result
    (λ made is. costs_are_right c.args.bundle.now made c.requires.stage c.requires.fits is) c.costs_of_bundle.ensures
