-- The links to the first trips so far.
use Rattle.vehicle_model.specs.Trips.{links_of}
use Rattle.link_plans.proofs.Common.{IsRow}
use Rattle.flow_potentials.proofs.trip_links.row_of.Given as goal

abbrev pub invariant-loop-to : goal.invariant-loop-to
invariant-loop-to l = IsRow (links_of l.trips) l.from l.to l.row.items
