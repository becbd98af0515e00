use Rattle.vehicle_model.proofs.Following.{follow_of}
use Rattle.vehicle_model.proofs.trips.Trips.may_follow.Goals as goal

pub returns-clause-follows : goal.returns-clause-follows
returns-clause-follows c = follow_of c.args.self.now c.args.i c.args.j c.link_minutes.result c.is_some.result
    c.is_some.ensures c.link_minutes.ensures.follows c.link_minutes.ensures.all
