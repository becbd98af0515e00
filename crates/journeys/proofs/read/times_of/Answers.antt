use Rattle.plan_num.proofs.Common.{◌≤◌, All, sym, subst}
use Rattle.journeys.proofs.PlannedTimes.{planned_soon}
use Rattle.journeys.proofs.read.times_of.Goals as goal
use Rattle.connections.specs.declared.checked_net.TheConstants.{LATEST}

pub returns-in_ok-planned_times-in-None-clause-soon : goal.returns-in_ok-planned_times-in-None-clause-soon
returns-in_ok-planned_times-in-None-clause-soon c =
    subst (All (λ time. time ≤ LATEST)) (sym c.in_ok-planned_times-in-None.ensures)
    (planned_soon c.args.events.now c.requires)
