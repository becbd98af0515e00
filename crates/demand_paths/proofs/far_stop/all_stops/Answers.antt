use Rattle.plan_num.proofs.Common.{◌≡◌, ◌++◌, ◌∷◌, [], map, ap, sym, ◌∙◌, arith, subst, Some}
use Rattle.plan_num.proofs.Common.{slice_get, range_with_len, map-range_with_len_more}
use Rattle.demand_paths.specs.Wanted.{far_stop}
use Rattle.demand_paths.proofs.FarStops.{distance_told}
use Rattle.demand_paths.proofs.far_stop.all_stops.Goals as goal

pub loop-stop-preserved : goal.loop-stop-preserved
loop-stop-preserved c =
    let network = c.args.network.now in
    let from = c.args.from in
    let stop = c.loop-stop.stop in
    let before = map (far_stop network from) (range_with_len 0 stop) in
    let told = c.distance_of-distance.ensures
    ∙ distance_told network from c.args.paths.now stop c.at.result c.requires.is
    (subst (λ lengths. slice_get lengths stop ≡ Some c.at.result) c.lengths.ensures
    c.at.ensures.place) in
    c.in_ok-push.ensures.items
    ∙ ap (λ stops. stops ++ record { distance = c.distance_of-distance.result; stop = stop } ∷ [])
    c.loop-stop.invariant
    ∙ ap (λ distance. before ++ record { distance = distance; stop = stop } ∷ []) told
    ∙ sym (map-range_with_len_more (far_stop network from) 0 stop stop (omega arith))
