use Rattle.plan_num.proofs.Common.{ap, arith, ◌∙◌, w64, unsigned_abs}
use Rattle.std.proofs.lemmas.Int.{to_z-of_z}
use Rattle.event_activity.proofs.LineEvents.{told_of}
use Rattle.event_activity.proofs.StopsOfRuns.{found_inside, found_id, found_fits}
use Rattle.event_activity.proofs.run_place.stop_of.Goals as goal

pub stop_id-requires : goal.stop_id-requires
stop_id-requires c =
    let stops = told_of (λ at. at.stops) c.args.pool.now c.args.line _ c.requires.line
    c.stops.ensures in
    found_inside c.args.network.now c.args.pool.now c.requires.served c.args.line c.args.place
    c.requires.line c.requires.place c.args.direction _ stops _ c.along-stop.ensures

pub overflow_cast-result : goal.overflow_cast-result
overflow_cast-result c =
    let stops = told_of (λ at. at.stops) c.args.pool.now c.args.line _ c.requires.line
    c.stops.ensures in
    let own = to_z-of_z w64 c.stop_id.result (record { sfits = c.stop_id.type_inv }) in
    let fits = found_fits c.args.network.now c.args.pool.now c.requires.served c.args.line
    c.args.place c.requires.line c.requires.place c.args.direction _ stops _
    c.along-stop.ensures c.stop_id.result c.stop_id.ensures in
    omega (arith, fits, c.unsigned_abs.ensures.value, ap unsigned_abs own)

pub returns : goal.returns
returns c =
    let stops = told_of (λ at. at.stops) c.args.pool.now c.args.line _ c.requires.line
    c.stops.ensures in
    let own = to_z-of_z w64 c.stop_id.result (record { sfits = c.stop_id.type_inv }) in
    c.unsigned_abs.ensures.value ∙ ap unsigned_abs own
    ∙ found_id c.args.network.now c.args.pool.now c.requires.served c.args.line c.args.place
    c.requires.line c.requires.place c.args.direction _ stops _ c.along-stop.ensures
    c.stop_id.result c.stop_id.ensures
