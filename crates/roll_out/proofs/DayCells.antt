-- The cells of the files of a day are in their columns.
use Rattle.plan_num.proofs.Common.{ℕ, pos, ◌+◌, ◌-◌, ◌<◌, ◌≤◌, ◌≤ℤ◌, arith, All, IfSome, List, []}
use Rattle.plan_num.proofs.Common.{◌∷◌, ◌++◌, length, filter, get_or, Option, Some, None, subst}
use Rattle.plan_num.proofs.Common.{sym, flat_map, enumerate_from, ints, All-nil, All-cons}
use Rattle.plan_num.proofs.Common.{All-append, All-head, All-tail, All-map, All-filter, All-weaker}
use Rattle.plan_num.proofs.Common.{All-from_recursion, recursion_from_All, length-map}
use Rattle.plan_num.proofs.Common.{length-enumerate_from, get_or-enumerate_from}
use Rattle.tables.proofs.Common.{activities_p_columns, activities_x_columns, events_x_columns}
use Rattle.tables.proofs.Common.{trips_columns, InColumns}
use Rattle.event_tables.specs.declared.activity_kind.ActivityKind.{ActivityKind}
use Rattle.event_tables.specs.declared.event_kind.EventKind.{EventKind}
use Rattle.event_tables.specs.declared.expanded_activity.ExpandedActivity.{ExpandedActivity}
use Rattle.event_tables.specs.declared.expanded_event.ExpandedEvent.{ExpandedEvent}
use Rattle.event_tables.specs.declared.periodic_activity.PeriodicActivity.{PeriodicActivity}
use Rattle.event_tables.proofs.Common.{expanded_activity_cells, expanded_event_cells}
use Rattle.event_tables.proofs.Common.{periodic_activity_cells, trip_cells}
use Rattle.event_tables.specs.declared.activity_kind.ActivityKind.TheVariants as day_kind
use Rattle.roll_out.specs.declared.timed_event.TimedEvent.{TimedEvent}
use Rattle.roll_out.specs.DayActivities.{change_copies, change_copy, changes_from, copy_of, day_activities, day_changes, day_ways, is_change, is_copy, is_head, trip_ways, way_from, way_kind, with_number}
use Rattle.roll_out.specs.DayTrips.{TripParts, day_event, day_events, no_timed, trip_events, trip_row}
use Rattle.roll_out.specs.Plans.{IsBetween, IsTimely, IsTrip}
use Rattle.roll_out.specs.RolloutStage.{trip_rows}
use Rattle.roll_out.specs.TimedRuns.{TimedParts}
use Rattle.roll_out.proofs.SoundTrips.{numbered_by}

id_in : (id : ℕ) → 1 ≤ id → id ≤ 1000000000 → (pos 1 ≤ℤ pos id) × (pos id ≤ℤ pos 1000000000)
id_in id low high = (omega (arith, ints), omega (arith, ints))

time_in : (time : ℕ) → time ≤ 1000000000 → (pos 0 ≤ℤ pos time) × (pos time ≤ℤ pos 1000000000)
time_in time high = (omega (arith, ints), omega (arith, ints))

abbrev pub EventFits : ExpandedEvent → Type 0
EventFits event = InColumns events_x_columns (expanded_event_cells event)

abbrev pub ActivityFits : ExpandedActivity → Type 0
ActivityFits activity = InColumns activities_x_columns (expanded_activity_cells activity)

-- an activity that fits once it has a number
abbrev PlainFits : ExpandedActivity → Type 0
PlainFits activity = ActivityFits (record activity { id = 1 })

parts_fit : {A X : Type 0} (P : X → Type 0) (Q : A → Type 0) (f : A → List X)
    → ((x : A) → Q x → All P (f x))
    → (xs : List A) → All Q xs → All P (flat_map f xs)
parts_fit P Q f step [] all = All-nil P
parts_fit P Q f step (x ∷ xs) all =
    All-append P (f x) (flat_map f xs) (step x (All-head Q x xs all))
    (parts_fit P Q f step xs (All-tail Q x xs all))

module _ (trip : TripParts) (is : IsTrip trip) where
  run_fits : (P : ℕ × TimedEvent → Type 0)
      → ((k : ℕ) (at : TimedEvent) → 1 ≤ k → k ≤ 100000 → IsTimely at → P (k, at))
      → All P (enumerate_from trip.first trip.run)
  run_fits P step =
      let low = is.low in
      let ids = is.ids in
      All-from_recursion P (enumerate_from trip.first trip.run)
      (numbered_by P IsTimely trip.first trip.run
      (λ k at above below good. step k at (omega (arith, low, above)) (omega (arith, ids, below))
      good)
      (recursion_from_All IsTimely trip.run is.timely))

  event_fits : (k : ℕ) (at : TimedEvent) → 1 ≤ k → k ≤ 100000 → IsTimely at
      → EventFits (day_event trip.start (k, at))
  event_fits k at low high good =
      let early = is.early in
      let soon = good.soon in (
        id_in k low (omega (arith, high)),
        (
          good.fits.0,
          (
            good.fits.1.0,
            (
              time_in (trip.start + at.minutes) (omega (arith, early, soon)),
              (good.fits.1.1.0, tt),
            ),
          ),
        ),
      )

  pub trip_events_fit : All EventFits (trip_events trip)
  trip_events_fit =
      All-map EventFits (day_event trip.start) (enumerate_from trip.first trip.run)
      (run_fits (λ at. EventFits (day_event trip.start at)) event_fits)

copy_fits : (kind : ActivityKind) (activity : PeriodicActivity) → InColumns activities_p_columns
    (periodic_activity_cells activity)
    → (from to : ℕ) → (pos 1 ≤ℤ pos from) × (pos from ≤ℤ pos 1000000000)
    → (pos 1 ≤ℤ pos to) × (pos to ≤ℤ pos 1000000000) → PlainFits (copy_of kind activity from to)
copy_fits kind activity fits from to first second = grind arith

way_fits : (event : EventKind) (way : Option PeriodicActivity) → IfSome way
    (λ way. InColumns activities_p_columns (periodic_activity_cells way))
    → (k : ℕ) → 1 ≤ k → k ≤ 100000 → All PlainFits (way_from event k way)
way_fits event None fits k low high = All-nil PlainFits
way_fits event (Some activity) fits k low high =
    All-cons PlainFits (copy_of (way_kind event) activity k (k + 1)) []
    (copy_fits (way_kind event) activity fits k (k + 1) (id_in k low (omega (arith, high)))
    (id_in (k + 1) (omega (arith, low)) (omega (arith, high))))
    (All-nil PlainFits)

trip_ways_fit : (trip : TripParts) → IsTrip trip → All PlainFits (trip_ways trip)
trip_ways_fit trip is =
    parts_fit PlainFits (λ (at : ℕ × TimedEvent). All PlainFits (way_from at.1.event.kind at.0 at.1.way))
    (λ (at : ℕ × TimedEvent). way_from at.1.event.kind at.0 at.1.way) (λ at all. all)
    (enumerate_from trip.first trip.run)
    (run_fits trip is (λ (at : ℕ × TimedEvent). All PlainFits (way_from at.1.event.kind at.0 at.1.way))
    (λ k at low high good. way_fits at.event.kind at.way good.way_fits k low high))

module _ (trips : List TripParts) (are : All IsTrip trips) where
  -- those of events
  pub events_fit : All EventFits (day_events trips)
  events_fit = parts_fit EventFits IsTrip trip_events trip_events_fit trips are

  module _ (network : TimedParts) (between : All (IsBetween network) network.activities) where
    from_fit : (activity : PeriodicActivity) → IsBetween network activity → (tail : ExpandedEvent)
        → EventFits tail
        → All PlainFits (changes_from network (day_events trips) activity tail)
    from_fit activity is tail fits =
        All-map PlainFits (λ (head : ExpandedEvent). change_copy activity tail.id head.id)
        (filter (is_head network activity tail) (day_events trips))
        (All-weaker EventFits (λ head. PlainFits (change_copy activity tail.id head.id))
        (λ head good. copy_fits day_kind.Change activity is.fits tail.id head.id fits.0 good.0)
        (filter (is_head network activity tail) (day_events trips))
        (All-filter (is_head network activity tail) EventFits (day_events trips) events_fit))

    change_fit : (activity : PeriodicActivity) → IsBetween network activity
        → All PlainFits (change_copies network (day_events trips) activity)
    change_fit activity is =
        parts_fit PlainFits EventFits (changes_from network (day_events trips) activity)
        (from_fit activity is)
        (filter (is_copy activity.from) (day_events trips))
        (All-filter (is_copy activity.from) EventFits (day_events trips) events_fit)

    plain_fit : All PlainFits (day_ways trips ++ day_changes network (day_events trips))
    plain_fit =
        All-append PlainFits (day_ways trips) (day_changes network (day_events trips))
        (parts_fit PlainFits IsTrip trip_ways trip_ways_fit trips are)
        (parts_fit PlainFits (IsBetween network) (change_copies network (day_events trips))
        change_fit
        (filter is_change network.activities)
        (All-filter is_change (IsBetween network) network.activities between))

    -- those of activities
    pub activities_fit : length (day_activities network trips) ≤ 500000
        → All ActivityFits (day_activities network trips)
    unfolding day_activities
    activities_fit few =
        let plain = day_ways trips ++ day_changes network (day_events trips) in
        All-map ActivityFits with_number (enumerate_from 1 plain) (λ k d h.
        let within : k < length plain = omega (arith, h, length-enumerate_from 1 plain) in
        let count = length-map (enumerate_from 1 plain) with_number in
        let same = length-enumerate_from 1 plain in
        subst (λ at. ActivityFits (with_number at)) (sym (get_or-enumerate_from 1 plain k d within)) (
          id_in (1 + k) (omega arith) (omega (arith, within, count, same, few)),
          (plain_fit k d.1 within).1,
        ))

-- those of trips
trip_fits : (trip : TripParts) → IsTrip trip → InColumns trips_columns (trip_cells (trip_row trip))
trip_fits trip is =
    let some = is.some in
    let low = is.low in
    let ids = is.ids in
    let early = is.early in
    let last = length trip.run - 1 in
    let first = is.timely 0 no_timed some in
    let end = is.timely last no_timed (omega (arith, some)) in
    let soon = first.soon in
    let later = end.soon in (
      id_in (trip.first + 0) (omega (arith, low)) (omega (arith, ids, some)),
      (
        first.fits.0,
        (
          first.fits.1.1.0,
          (
            time_in (trip.start + (get_or trip.run 0 no_timed).minutes)
                (omega (arith, early, soon)),
            (
              id_in (trip.first + last) (omega (arith, low)) (omega (arith, ids, some)),
              (
                end.fits.0,
                (
                  end.fits.1.1.0,
                  (
                    time_in (trip.start + (get_or trip.run last no_timed).minutes)
                        (omega (arith, early, later)),
                    (first.fits.1.1.1.0, tt),
                  ),
                ),
              ),
            ),
          ),
        ),
      ),
    )

pub trips_fit : (trips : List TripParts) → All IsTrip trips
    → All (λ row. InColumns trips_columns (trip_cells row)) (trip_rows trips)
trips_fit trips are =
    All-map (λ row. InColumns trips_columns (trip_cells row)) trip_row trips
    (All-weaker IsTrip (λ trip. InColumns trips_columns (trip_cells (trip_row trip))) trip_fits
    trips are)
