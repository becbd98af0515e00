use Rattle.plan_num.proofs.Common.{arith}
use Rattle.demand_paths.proofs.KnownOnes.{is_reached}
use Rattle.demand_paths.proofs.known_paths.KnownPaths.joins.Goals as goal

pub returns-clause-joined : goal.returns-clause-joined
returns-clause-joined c =
    let network = c.args.network.now in grind (arith, is_reached)
