-- The trips of plans are those of the day.
use Rattle.plan_num.proofs.Common.{◌≡◌, ℕ, zero, suc, ◌+◌, ◌*◌, ◌≤◌, arith, List, [], ◌∷◌, ◌++◌}
use Rattle.plan_num.proofs.Common.{length, map, refl, ap, sym, ◌∙◌, flat_map, range_with_len}
use Rattle.plan_num.proofs.Common.{sum_by, sum_by-cons, map-map}
use Rattle.event_tables.specs.declared.periodic_event.PeriodicEvent.{PeriodicEvent}
use Rattle.event_tables.proofs.Common.{runs_of}
use Rattle.roll_out.specs.declared.day.Day.{Day}
use Rattle.roll_out.specs.declared.timed_event.TimedEvent.{TimedEvent}
use Rattle.roll_out.specs.DayTrips.{departures_of, numbered_trips, trips_of}
use Rattle.roll_out.specs.Plans.{PlanParts, plan_of, trip_after, trips_by}
use Rattle.roll_out.specs.TimedRuns.{TimedParts}
use Rattle.roll_out.proofs.Spaced.{starts_are}

abbrev Departures : Type 0
Departures = List (ℕ × List TimedEvent)

abbrev size_of : Departures → ℕ
size_of departures = sum_by (λ (at : ℕ × List TimedEvent). length at.1) departures

numbered_append : (n : ℕ) (some others : Departures)
    → numbered_trips n (some ++ others) ≡ numbered_trips n some
    ++ numbered_trips (n + size_of some) others
unfolding numbered_trips
numbered_append n [] others =
    let e : n ≡ n + size_of [] = omega arith in ap (λ k. numbered_trips k others) e
numbered_append n (at ∷ some) others =
    let step = sum_by-cons (λ (at : ℕ × List TimedEvent). length at.1) at some in grind (
      arith,
      numbered_append (n + length at.1) some others,
    )

module _ (network : TimedParts) (day : Day) (some : 1 ≤ network.period) where
  module _ (plan : PlanParts) where
    abbrev departs : ℕ → ℕ × List TimedEvent
    departs k = (plan.start + k * network.period, plan.run)

    spread : (n a count : ℕ)
        → numbered_trips (n + a * length plan.run) (map departs (range_with_len a count))
        ≡ map (trip_after network.period n plan) (range_with_len a count)
    unfolding numbered_trips
    spread n a zero = refl
    spread n a (suc count) = grind (arith, spread n (a + 1) count)

    spread_size : (a count : ℕ) → size_of (map departs (range_with_len a count))
        ≡ count * length plan.run
    spread_size a zero = omega arith
    spread_size a (suc count) =
        let step = sum_by-cons (λ (at : ℕ × List TimedEvent). length at.1) (departs a)
        (map departs (range_with_len (a + 1) count)) in grind (arith, spread_size (a + 1) count)

  departures_are : (run : List PeriodicEvent)
      → departures_of network day run
      ≡ map (departs (plan_of network day run)) (range_with_len 0 (plan_of network day run).trips)
  departures_are run = grind (arith, starts_are, map-map)

  day_trips : (n : ℕ) (runs : List (List PeriodicEvent))
      → numbered_trips n (flat_map (departures_of network day) runs)
      ≡ trips_by network.period n (map (plan_of network day) runs)
  unfolding trips_by numbered_trips
  day_trips n [] = refl
  day_trips n (run ∷ runs) =
      let plan = plan_of network day run in
      let size : size_of (departures_of network day run) ≡ plan.trips * length plan.run =
      ap size_of (departures_are run) ∙ spread_size plan 0 plan.trips in
      let e : n ≡ n + 0 * length plan.run = omega arith in grind (
        arith,
        numbered_append,
        departures_are,
        spread,
        day_trips (n + plan.trips * length plan.run) runs,
      )

  -- the trips of the plans of all runs
  pub trips_are : trips_by network.period 1 (map (plan_of network day) (runs_of network.events))
      ≡ trips_of network day
  unfolding trips_of
  trips_are = sym (day_trips 1 (runs_of network.events))
