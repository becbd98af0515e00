use Rattle.link_plans.proofs.Common.{links_in}
use Rattle.plan_search.proofs.Parted.{met_taken}
use Rattle.plan_search.proofs.parting.part.Goals as goal

pub returns-then-are_met-clause-taken : goal.returns-then-are_met-clause-taken
returns-then-are_met-clause-taken c = met_taken (links_in c.args.trips.now) c.args.potentials
    c.in_ok-parted.parted c.args.assignment.now c.requires.taken (c.are_met.ensures c.if-are_met.true)
