-- The rows of the trips so far.
use Rattle.plan_num.proofs.Common.{ℕ, ◌≡◌, ◌<◌, [], length, map, get_or}
use Rattle.vehicle_model.specs.Trips.{links_of}
use Rattle.link_plans.proofs.Common.{IsRow}
use Rattle.flow_potentials.proofs.trip_links.links_of_trips.Given as goal

abbrev pub invariant-loop-trip : goal.invariant-loop-trip
invariant-loop-trip l = record {
  each : length (map (λ row. row.items) l.rows.items) ≡ l.trip;
  row : (i : ℕ) → i < l.trip
      → IsRow (links_of l.trips) i (length l.trips.trips) (get_or (map (λ row. row.items)
      l.rows.items) i []);
}
