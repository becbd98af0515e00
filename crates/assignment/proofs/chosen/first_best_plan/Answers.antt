use Rattle.plan_num.proofs.Common.{refl, ◌∙◌, arith}
use Rattle.link_plans.proofs.Common.{links_in}
use Rattle.assignment.proofs.Claimables.{claimable_first}
use Rattle.plan_search.proofs.ClaimLists.{none_at}
use Rattle.assignment.proofs.Settling.{IsDeciding, deciding_none, deciding_more, search_is, chosen_all, chosen_told}
use Rattle.assignment.proofs.chosen.first_best_plan.Goals as goal

pub loop-trip-init : goal.loop-trip-init
loop-trip-init c = grind (arith, IsDeciding, deciding_none, claimable_first, none_at)

pub place_for_good-requires : goal.place_for_good-requires
place_for_good-requires c = (
  search_is (links_in c.args.trips.now) c.len.ensures.links c.args.solved.now.potentials c.args.solved.now.plan
      c.loop-trip.assignment c.loop-trip.trip
      c.requires.valid (omega (arith, c.loop-trip-test.true, c.len-trip-end.ensures.count))
      c.loop-trip.invariant.deciding,
  (refl, (c.in_ok-ties_of.ensures, (c.loop-trip.invariant.none, c.loop-trip.invariant.claimable))),
)

pub loop-trip-preserved : goal.loop-trip-preserved
loop-trip-preserved c = record {
  deciding = deciding_more (record {
    links = links_in c.args.trips.now;
    potentials = c.args.solved.now.potentials;
    trip = c.loop-trip.trip;
    low = c.loop-trip.trip;
  }) c.loop-trip.assignment c.place_for_good.new.assignment c.loop-trip.trip refl
      c.loop-trip.invariant.deciding
      c.in_ok-place_for_good.ensures.settled;
  none = c.in_ok-place_for_good.ensures.none ∙ c.loop-trip.invariant.none;
  claimable = c.in_ok-place_for_good.ensures.places;
}

pub returns : goal.returns
returns c = chosen_told (links_in c.args.trips.now) c.loop-trip.assignment
    (chosen_all (links_in c.args.trips.now) c.len.ensures.links c.args.solved.now.potentials c.args.solved.now.plan
    c.loop-trip.assignment c.loop-trip.trip
    c.requires.valid c.requires.plan
    (omega (arith, c.loop-trip-test.false, c.len-trip-end.ensures.count))
    c.loop-trip.invariant.deciding)
    c.to_plan.result c.to_plan.ensures
