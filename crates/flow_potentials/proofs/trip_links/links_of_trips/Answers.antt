use Rattle.plan_num.proofs.Common.{ℕ, ◌≡◌, List, length, map, ap, ◌∙◌, arith}
use Rattle.link_plans.specs.declared.link_table.Link.{Link}
use Rattle.link_plans.proofs.Common.{links_in, AreRows, IsRow, lists_are, lists_sound, lists_more}
use Rattle.vehicle_model.specs.Trips.{links_of}
use Rattle.vehicle_model.proofs.TripLinks.{trips_links}
use Rattle.flow_potentials.proofs.trip_links.links_of_trips.Goals as goal

pub loop-trip-preserved : goal.loop-trip-preserved
loop-trip-preserved c =
    let Q : ℕ → List Link → Type 0 =
    λ i. IsRow (links_of c.args.trips.now) i (length c.args.trips.now.trips) in
    let both = lists_more (λ row. row.items) Q c.loop-trip.rows.items c.in_ok-row_of.field-0
    c.push.new.self.items c.loop-trip.trip c.in_ok-push.ensures.items c.loop-trip.invariant.each
    c.loop-trip.invariant.row c.in_ok-row_of.ensures in
    record { each = both.0; row = both.1 }

pub of_rows-requires : goal.of_rows-requires
of_rows-requires c =
    let all : c.loop-trip.trip ≡ length c.args.trips.now.trips =
    omega (arith, c.loop-trip.auto.trip-end, c.loop-trip-test.false, c.len-trip-end.ensures.count)
    in
    let rows = map (λ row. row.items) c.loop-trip.rows.items in
    let are : AreRows (links_of c.args.trips.now) rows = record {
      each = c.loop-trip.invariant.each ∙ all;
      row = λ i within. c.loop-trip.invariant.row i (omega (arith, within, all));
    } in
    lists_sound (links_of c.args.trips.now) (trips_links c.args.trips.now
    c.len-trip-end.ensures.trips)
    rows are

pub returns-clause-links : goal.returns-clause-links
returns-clause-links c =
    let all : c.loop-trip.trip ≡ length c.args.trips.now.trips =
    omega (arith, c.loop-trip.auto.trip-end, c.loop-trip-test.false, c.len-trip-end.ensures.count)
    in
    let rows = map (λ row. row.items) c.loop-trip.rows.items in
    let are : AreRows (links_of c.args.trips.now) rows = record {
      each = c.loop-trip.invariant.each ∙ all;
      row = λ i within. c.loop-trip.invariant.row i (omega (arith, within, all));
    } in
    ap links_in c.of_rows.ensures
    ∙ lists_are (links_of c.args.trips.now) (trips_links c.args.trips.now
    c.len-trip-end.ensures.trips)
    rows are
