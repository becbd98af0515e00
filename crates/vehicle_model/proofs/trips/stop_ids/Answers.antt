use Rattle.plan_num.proofs.Common.{w64}
use Rattle.std.proofs.lemmas.Int.{to_z-of_z}
use Rattle.vehicle_model.proofs.TripTexts.{ids_more}
use Rattle.vehicle_model.proofs.trips.stop_ids.Goals as goal

pub loop-stop-preserved : goal.loop-stop-preserved
loop-stop-preserved c = ids_more c.args.network.now.stops c.loop-stop.ids.items _ c.loop-stop.stop
    c.stop_id.result _ c.stop_id.ensures c.loop-stop.invariant
    (to_z-of_z w64 c.stop_id.result (record { sfits = c.stop_id.type_inv }))
    c.in_ok-push.ensures.items
