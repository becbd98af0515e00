use Rattle.plan_num.proofs.Common.{rules, IsNonDecreasingBy-from_sort_by_key}
use Rattle.demand_paths.proofs.FarStops.{by_distance}
use Rattle.demand_paths.proofs.far_stop.nearest_first.Goals as goal

pub returns : goal.returns
returns c =
    by_distance c.args.network.now c.args.from c.in_ok-stops.stops.items
    c.sort_unstable_by_key.new.self.items c.in_ok-stops.ensures
    c.sort_unstable_by_key.ensures.permutation
    (IsNonDecreasingBy-from_sort_by_key (λ far. far.distance) _
    c.sort_unstable_by_key.ensures.sorted (λ a r q k. search rules))
