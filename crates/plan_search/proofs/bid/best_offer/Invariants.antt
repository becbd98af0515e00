-- The best of the links so far.
use Rattle.plan_search.proofs.Bidding.{IsOffer}
use Rattle.plan_search.proofs.bid.best_offer.Given as goal

abbrev pub invariant-loop-link : goal.invariant-loop-link
invariant-loop-link l = IsOffer l.links l.potentials l.link-index l.offer
