-- The trips that have places are taken in, and a trip bids next.
use Rattle.plan_num.proofs.Common.{◌<◌, length}
use Rattle.link_plans.proofs.Common.{links_in}
use Rattle.plan_search.specs.Growing.{IsTaken}
use Rattle.plan_search.proofs.cheapest.bid_on.Given as goal

abbrev pub invariant-loop-turn : goal.invariant-loop-turn
invariant-loop-turn l = record {
  taken : IsTaken (links_in l.trips) l.potentials l.assignment;
  within : l.bidder < length l.trips;
}
