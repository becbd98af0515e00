use Rattle.plan_num.proofs.Common.{◌∙◌, ap, nat_le}
use Rattle.connections.proofs.FollowedRides.{ride_by_links}
use Rattle.connections.proofs.check.is_ride.Goals as goal

pub returns : goal.returns
returns c =
    ap (λ left. nat_le left 1) c.events_left.ensures
    ∙ ride_by_links c.args.net.now.connections c.links.result.now c.links.ensures c.args.journey.now
