-- The row of a trip repeats that trip.
use Rattle.plan_num.proofs.Common.{◌≡◌, ℕ, ◌<◌, ◌==◌, ◌&&◌, Bool, true, false, List, length, map}
use Rattle.plan_num.proofs.Common.{get_or, position, nat_lt, Some, refl, ap, ◌∙◌, arith, eq-eqb}
use Rattle.plan_num.proofs.Common.{lt-ltb, Decides-eqb, length-map, get_or-map, position_or_len_is}
use Rattle.std.proofs.lemmas.Map.Made.{AllPairs-from_IsDistinct}
use Rattle.event_tables.specs.declared.trip.Trip.{Trip}
use Rattle.event_tables.specs.declared.trip.TripEnd.{TripEnd}
use Rattle.vehicle_model.specs.ReadSchedules.{same_end, same_run}
use Rattle.vehicle_model.specs.Schedules.{no_trip, trip_of}
use Rattle.vehicle_model.specs.Trips.{TripsParts, AreTrips}
use Rattle.plan_num.proofs.Tests.{both_true}

pub same_number : (n : ℕ) → (n == n) ≡ true
same_number n = eq-eqb n n refl

pub end_itself : (end : TripEnd) → same_end end end ≡ true
end_itself end = both_true (both_true (both_true (same_number end.event) (same_number end.periodic))
    (same_number end.stop)) (same_number end.time)

run_itself : (run : Trip) → same_run run run ≡ true
run_itself run = both_true (both_true (end_itself run.start) (end_itself run.end)) (same_number run.line)

same_start : (a b : Trip) → same_run a b ≡ true → a.start.event ≡ b.start.event
same_start a b h = grind arith

position_at : {X : Type 0} (p : X → Bool) (xs : List X) (i : ℕ) (d : X) → i < length xs
    → ((k : ℕ) → k < i → p (get_or xs k d) ≡ false) → p (get_or xs i d) ≡ true → position p xs ≡ Some i
position_at p xs i d within none at = grind (arith, position_or_len_is, nat_lt, lt-ltb)

pub repeats : (trips : TripsParts) → AreTrips trips → (i : ℕ) → i < length trips.trips
    → position (same_run (trip_of trips i)) trips.trips ≡ Some i
repeats trips are i within = position_at (same_run (trip_of trips i)) trips.trips i no_trip within
    (λ k before. apart k before (same_run (trip_of trips i) (trip_of trips k)) refl)
    (run_itself (trip_of trips i))
  where
    start_at : (k : ℕ) → k < length trips.trips → get_or (map (λ (trip : Trip). trip.start.event) trips.trips)
        k 0 ≡ (trip_of trips k).start.event
    start_at k inside = get_or-map (λ (trip : Trip). trip.start.event) trips.trips k no_trip 0 inside

    apart : (k : ℕ) → k < i → (b : Bool) → same_run (trip_of trips i) (trip_of trips k) ≡ b → b ≡ false
    apart k before false h = refl
    apart k before true h =
        grind (arith, AllPairs-from_IsDistinct, Decides-eqb, length-map, start_at, same_start)
