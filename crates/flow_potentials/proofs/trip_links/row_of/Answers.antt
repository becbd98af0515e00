use Rattle.vehicle_model.specs.Trips.{links_of}
use Rattle.link_plans.proofs.Common.{row_more}
use Rattle.flow_potentials.proofs.trip_links.row_of.Goals as goal

pub loop-to-preserved : goal.loop-to-preserved
loop-to-preserved c = row_more (links_of c.args.trips.now) c.args.from c.loop-to.to
    c.loop-to.row.items
    c.loop-to.invariant c.worth.result c.push_if_worth.new.row.items c.worth.ensures.value
    c.worth.ensures.small c.in_ok-push_if_worth.ensures
