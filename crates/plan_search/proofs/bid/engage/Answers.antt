use Rattle.plan_num.proofs.Common.{◌-◌, slice_set, ap, ◌∙◌}
use Rattle.link_plans.proofs.Common.{links_in}
use Rattle.plan_search.proofs.Bidding.{engaged}
use Rattle.plan_search.proofs.bid.engage.Goals as goal

pub returns : goal.returns
returns c = engaged (links_in c.args.trips.now) c.args.potentials.now c.args.assignment.now c.args.trip c.args.link
    c.args.rest c.requires.but c.requires.within c.requires.waits c.requires.free c.requires.link c.requires.low
    c.requires.others c.set_place.new.potentials
    (c.set_place.ensures ∙ ap (λ p. record {
      u = p.u;
      v = slice_set p.v c.args.link.to (c.args.link.gain - c.args.rest);
    }) c.set_trip.ensures)
    c.give.new.self c.give.ensures
