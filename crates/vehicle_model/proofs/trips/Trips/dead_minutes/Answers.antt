use Rattle.plan_num.proofs.Common.{subst}
use Rattle.walks.proofs.Common.{edge_time, IsLeastSum}
use Rattle.vehicle_model.specs.Schedules.{trip_of}
use Rattle.vehicle_model.specs.Trips.{start_stop, end_stop}
use Rattle.vehicle_model.proofs.trips.Trips.dead_minutes.Goals as goal

pub returns-clause-least : goal.returns-clause-least
returns-clause-least c =
    subst (λ trips. IsLeastSum trips.network.edges edge_time (end_stop trips.network (trip_of trips c.args.i))
    (start_stop trips.network (trip_of trips c.args.j)) c.minutes.result) c.self.view_is
    (c.minutes.ensures.value c.self.inside.network c.self.inside.rows.items c.self.invariant.1).least
