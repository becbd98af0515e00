-- The trips that have places are taken in.
use Rattle.link_plans.proofs.Common.{links_in}
use Rattle.plan_search.specs.Growing.{IsTaken}
use Rattle.plan_search.proofs.cheapest.bid_all.Given as goal

abbrev pub invariant-loop-step : goal.invariant-loop-step
invariant-loop-step l = IsTaken (links_in l.trips) l.potentials l.assignment
