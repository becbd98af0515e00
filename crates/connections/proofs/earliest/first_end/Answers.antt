use Rattle.plan_num.proofs.Common.{arith}
use Rattle.connections.proofs.FirstEnds.{first_kept}
use Rattle.connections.proofs.earliest.first_end.Goals as goal

pub loop-event-preserved : goal.loop-event-preserved
loop-event-preserved c =
    let net = c.args.net.now in grind (arith, first_kept)
