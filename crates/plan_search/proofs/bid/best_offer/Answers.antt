use Rattle.plan_num.proofs.Common.{get_or, arith}
use Rattle.link_plans.proofs.Common.{links_in, link_to, none_past, item}
use Rattle.plan_search.proofs.Bidding.{offer_all, offer_more}
use Rattle.plan_search.proofs.bid.best_offer.Goals as goal

pub link_rest-rest-requires : goal.link_rest-rest-requires
link_rest-rest-requires c = omega (
  arith,
  (c.row-links.ensures.row.right c.loop-link.link-index _
      (item c.row-links.result.now c.loop-link.link-index c.loop-link-test.true)).within,
  c.requires.each.each_v,
)

pub loop-link-preserved : goal.loop-link-preserved
loop-link-preserved c = offer_more (links_in c.args.trips.now) c.args.potentials.now c.args.trip
    c.row-links.result.now c.row-links.ensures.row c.loop-link.link-index c.loop-link.offer c.loop-link.invariant
    (get_or c.row-links.result.now c.loop-link.link-index (link_to 0 0))
    (item c.row-links.result.now c.loop-link.link-index c.loop-link-test.true)
    c.link_rest-rest.result c.link_rest-rest.ensures c.wins-wins.result c.next_offer-offer.result
    c.wins-wins.ensures.yes c.wins-wins.ensures.no c.next_offer-offer.ensures

pub returns : goal.returns
returns c = offer_all (links_in c.args.trips.now) c.args.potentials.now c.args.trip
    c.row-links.result.now c.row-links.ensures.row
    (none_past (links_in c.args.trips.now) c.row-links.ensures.links c.args.trip) c.loop-link.link-index
    c.loop-link.offer c.loop-link.invariant (omega (arith, c.loop-link-test.false))
