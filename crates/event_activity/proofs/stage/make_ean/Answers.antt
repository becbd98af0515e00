use Rattle.giv_files.proofs.Common.{right_given}
use Rattle.event_activity.proofs.EanReads.{ean_is_right}
use Rattle.event_activity.proofs.stage.make_ean.Goals as goal

pub returns-clause-right : goal.returns-clause-right
returns-clause-right g c =
    right_given _ c.ean_of_bundle.result
    (λ made is. ean_is_right c.args.bundle.now made c.requires.stage c.requires.fits is) c.ean_of_bundle.ensures
