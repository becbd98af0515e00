use Rattle.plan_num.proofs.Common.{arith, Some, sym, subst, ◌∙◌, ap, w64, unsigned_abs}
use Rattle.plan_num.proofs.Common.{err_from_is_err_and}
use Rattle.std.proofs.lemmas.Int.{to_z-of_z}
use Rattle.event_tables.specs.Trips.{AreTrips as AreTripRows}
use Rattle.tables.proofs.Common.{Refuses, refused_append}
use Rattle.vehicle_model.specs.DeadTables.{IsDeadTable}
use Rattle.vehicle_model.specs.Trips.{trips_faults}
use Rattle.vehicle_model.proofs.TripTexts.{rows_faults, trips_are, abs_small, settings_are}
use Rattle.vehicle_model.proofs.trips.Trips.from_texts.Goals as goal

pub returns-in_err-network : goal.returns-in_err-network
unfolding trips_faults
returns-in_err-network c =
    let p = err_from_is_err_and c.from_residual.result c.from_residual.ensures.1 in grind (
      arith,
      refused_append,
    )

pub returns-in_err-rows : goal.returns-in_err-rows
returns-in_err-rows c =
    let p = err_from_is_err_and c.from_residual-in_err-rows.result
    c.from_residual-in_err-rows.ensures.1 in
    let network = c.in_ok-network.ensures in
    rw (p.1, p.2) (subst (λ all. Refuses all c.in_err-rows.field-0.0)
    (rows_faults c.args.stops.now c.args.edges.now c.args.trips.now c.in_ok-network.network
    network.0 network.1 c.deref.result.now
    (c.deref.ensures.value ∙ c.in_ok-ids.ensures.ids))
    c.in_err-rows.ensures.read)

pub invariant_of-result : goal.invariant_of-result
invariant_of-result c = (
  record {
    network = c.stop_ids.ensures.network;
    rows = subst (λ ids. AreTripRows (Some ids) c.in_ok-rows.rows.items)
        (c.deref.ensures.value ∙ c.in_ok-ids.ensures.ids) c.in_ok-rows.ensures.sound;
    short_turnover = abs_small c.args.turnover 10000 _ c.requires.turnover.0 c.requires.turnover.1
        (c.unsigned_abs.ensures.value
        ∙ ap unsigned_abs (to_z-of_z w64 c.args.turnover c.ranges.turnover));
    cheap_vehicle = abs_small c.args.vehicle 1000000000000 _ c.requires.vehicle.0
        c.requires.vehicle.1 (c.unsigned_abs-2.ensures.value
        ∙ ap unsigned_abs (to_z-of_z w64 c.args.vehicle c.ranges.vehicle));
    cheap_minutes = abs_small c.args.empty 1000000000000 _ c.requires.empty.0
        c.requires.empty.1 (c.unsigned_abs-3.ensures.value
        ∙ ap unsigned_abs (to_z-of_z w64 c.args.empty c.ranges.empty));
  },
  subst (λ rows. IsDeadTable c.in_ok-network.network rows c.in_ok-dead.dead) c.deref-2.ensures.value
      c.in_ok-dead.ensures,
)

pub returns : goal.returns
returns c =
    let network = c.in_ok-network.ensures in
    let rows = c.in_ok-rows.ensures.read in
    let ids = c.deref.ensures.value ∙ c.in_ok-ids.ensures.ids in (
      sym (rows_faults c.args.stops.now c.args.edges.now c.args.trips.now c.in_ok-network.network
          network.0 network.1 c.deref.result.now ids) ∙ rows.0,
      trips_are c.args.stops.now c.args.edges.now c.args.trips.now c.in_ok-network.network
          network.0 network.1 c.deref.result.now ids c.in_ok-rows.rows.items
          c.unsigned_abs.result c.unsigned_abs-2.result c.unsigned_abs-3.result rows.1
          ∙ settings_are c.args.stops.now c.args.edges.now c.args.trips.now
          (c.unsigned_abs.ensures.value
          ∙ ap unsigned_abs (to_z-of_z w64 c.args.turnover c.ranges.turnover))
          (c.unsigned_abs-2.ensures.value
          ∙ ap unsigned_abs (to_z-of_z w64 c.args.vehicle c.ranges.vehicle))
          (c.unsigned_abs-3.ensures.value
          ∙ ap unsigned_abs (to_z-of_z w64 c.args.empty c.ranges.empty)),
    )
