-- The trips so far have their places for good.
use Rattle.plan_num.proofs.Common.{◌≡◌, ◌+◌, [], None, length, replicate}
use Rattle.link_plans.proofs.Common.{links_in}
use Rattle.assignment.specs.ClaimablePlaces.{AreClaimable}
use Rattle.assignment.proofs.Settling.{IsDeciding}
use Rattle.assignment.proofs.chosen.first_best_plan.Given as goal

abbrev pub invariant-loop-trip : goal.invariant-loop-trip
invariant-loop-trip l = record {
  deciding : IsDeciding (links_in l.trips) l.solved.potentials l.assignment l.trip;
  none : l.claimed.claims ≡ record { at = replicate (length l.trips + 1) None; order = [] };
  claimable : AreClaimable (length l.trips) l.trip l.assignment l.claimed.claims l.claimed.places;
}

abbrev pub ghost-place_for_good : goal.ghost-place_for_good
ghost-place_for_good a = record {
  links = links_in a.ties.now.links.now;
  potentials = a.ties.now.potentials.now;
  trip = a.trip;
  low = a.trip;
}
