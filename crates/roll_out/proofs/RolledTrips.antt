-- Each trip is of a run that goes on by drives and waits, and what follows for its events.
use Rattle.plan_num.proofs.Common.{◌≡◌, ℕ, ◌+◌, ◌≤◌, arith, true, false, All, IfSome, List, [], ◌∷◌}
use Rattle.plan_num.proofs.Common.{◌++◌, length, map, Option, Some, None, refl, ap, subst, sym}
use Rattle.plan_num.proofs.Common.{flat_map, enumerate_from, AllByRecursion}
use Rattle.event_tables.specs.declared.event_kind.EventKind.{EventKind}
use Rattle.event_tables.specs.declared.expanded_event.ExpandedEvent.{ExpandedEvent}
use Rattle.event_tables.specs.declared.periodic_activity.PeriodicActivity.{PeriodicActivity}
use Rattle.event_tables.specs.declared.periodic_event.PeriodicEvent.{PeriodicEvent}
use Rattle.event_tables.proofs.Common.{IsExpandedActivity, stands_before, is_arrival, is_sync}
use Rattle.event_tables.proofs.Common.{runs_of, leads, same_kind}
use Rattle.event_tables.specs.declared.event_kind.EventKind.TheVariants as kinds
use Rattle.event_tables.specs.RunRules as rules
use Rattle.roll_out.specs.declared.day.Day.{Day}
use Rattle.roll_out.specs.declared.timed_event.TimedEvent.{TimedEvent}
use Rattle.roll_out.specs.DayActivities.{day_ways, trip_ways, way_from, way_kind}
use Rattle.roll_out.specs.DayTrips.{TripParts, day_event, departures_of, numbered_trips, trip_events, trips_of}
use Rattle.roll_out.specs.TimedRuns.{TimedParts, minutes_of, minutes_on, timed_from, way_on}
use Rattle.plan_num.proofs.Found.{found_has}
use Rattle.roll_out.proofs.GoesForward.{forward_between, later_stands, waits_stand}
use Rattle.roll_out.proofs.GoodRuns.{IsFit, IsGoodRun, drive_takes, found_passes}
use Rattle.roll_out.proofs.ListedEvents.{IsListed, mapped_all}
use Rattle.roll_out.proofs.SoundPlans.{minutes_are}
use Rattle.plan_num.proofs.Lists.{append_all}

no_sync : (event : EventKind) → is_sync (way_kind event) ≡ false
no_sync kinds.Departure = refl
no_sync kinds.Arrival = refl

-- a trip of a good run
pub record IsRolled (network : TimedParts) (trip : TripParts) : Type 0 where
  pub periodic : List PeriodicEvent
  pub is : trip.run ≡ timed_from network 0 periodic
  pub good : IsGoodRun network periodic

-- what starts is of a good run
abbrev Starts : TimedParts → ℕ × List TimedEvent → Type 0
Starts network at = (run : List PeriodicEvent) × (at.1 ≡ timed_from network 0 run)
    × IsGoodRun network run

module _ (network : TimedParts) where
  mapped_start : (run : List PeriodicEvent) → IsGoodRun network run → (times : List ℕ)
      → AllByRecursion (Starts network) (map (λ start. (start, timed_from network 0 run)) times)
  mapped_start run good [] = tt
  mapped_start run good (time ∷ times) = ((run, refl, good), mapped_start run good times)

  departures_good : (day : Day) (runs : List (List PeriodicEvent))
      → AllByRecursion (IsGoodRun network) runs
      → AllByRecursion (Starts network) (flat_map (departures_of network day) runs)
  departures_good day [] good = tt
  departures_good day (run ∷ runs) good =
      grind (arith, append_all, mapped_start, departures_good day runs good.1)

  numbered_rolled : (n : ℕ) (departures : List (ℕ × List TimedEvent))
      → AllByRecursion (Starts network) departures
      → AllByRecursion (IsRolled network) (numbered_trips n departures)
  unfolding numbered_trips
  numbered_rolled n [] good = tt
  numbered_rolled n (at ∷ departures) good =
      grind (arith, numbered_rolled (n + length at.1) departures good.1)

  pub trips_rolled : (day : Day) → AllByRecursion (IsGoodRun network) (runs_of network.events)
      → AllByRecursion (IsRolled network) (trips_of network day)
  unfolding trips_of
  trips_rolled day good = numbered_rolled 1 _ (departures_good day (runs_of network.events) good)

-- ---- drives and waits

pub leads_kind : (pair : PeriodicEvent × PeriodicEvent) (way : PeriodicActivity) → leads pair way
    ≡ true
    → same_kind way.kind (rules.way_on pair.0.kind) ≡ true
leads_kind pair way is = grind arith

module _ (network : TimedParts) (some : 1 ≤ network.period) (short : network.period ≤ 720)
    (fit : All (IsFit network) network.activities) (events : List ExpandedEvent) (start : ℕ) where
  abbrev Listed : ℕ × TimedEvent → Type 0
  Listed at = IsListed events (day_event start at)

  stands : (event next : PeriodicEvent) (way : PeriodicActivity) (n minutes : ℕ)
      (on after : Option PeriodicActivity)
      → leads (event, next) way ≡ true → IsFit network way
      → stands_before (day_event start (n, record { event = event; minutes = minutes; way = on }))
      (day_event start (
        n + 1,
        record {
          event = next;
          minutes = minutes + minutes_of network way;
          way = after;
        },
      )) ≡ true
  stands event next way n minutes on after leading is = by event.kind refl
    where
      by : (kind : EventKind) → event.kind ≡ kind
          → stands_before (day_event start (
            n,
            record {
              event = event;
              minutes = minutes;
              way = on;
            },
          ))
          (day_event start (
            n + 1,
            record {
              event = next;
              minutes = minutes + minutes_of network
                  way;
              way = after;
            },
          )) ≡ true
      by kinds.Departure departs =
          let low = (minutes_are network some short way).0 in
          let takes = drive_takes way
          (subst (λ kind. same_kind way.kind (rules.way_on kind) ≡ true) departs
          (leads_kind (event, next) way leading)) is.takes_time in
          later_stands
          (day_event start (n, record { event = event; minutes = minutes; way = on }))
          (day_event start (
            n + 1,
            record {
              event = next;
              minutes = minutes + minutes_of network
                  way;
              way = after;
            },
          ))
          (omega (arith, low, takes))
      by kinds.Arrival arrives =
          waits_stand
          (day_event start (n, record { event = event; minutes = minutes; way = on }))
          (day_event start (
            n + 1,
            record {
              event = next;
              minutes = minutes + minutes_of network
                  way;
              way = after;
            },
          ))
          (ap is_arrival arrives) (omega arith) (omega arith)

  one_way : (event next : PeriodicEvent) (n minutes : ℕ) (on after : Option PeriodicActivity)
      (way : Option PeriodicActivity)
      → IfSome way (λ way. leads (event, next) way ≡ true) → IfSome way (IsFit network)
      → Listed (n, record { event = event; minutes = minutes; way = on })
      → Listed (
        n + 1,
        record {
          event = next;
          minutes = minutes + minutes_on network way;
          way =
              after;
        },
      )
      → AllByRecursion (IsExpandedActivity events) (way_from event.kind n way)
  one_way event next n minutes on after None leading is here there = tt
  one_way event next n minutes on after (Some way) leading is here there = (
    record {
      from = here.id;
      to = there.id;
      in_order = is.between.sound.in_order;
      no_sync = no_sync event.kind;
      forward = forward_between events n (n + 1)
          (day_event start (n, record { event = event; minutes = minutes; way = on }))
          (day_event start (
            n + 1,
            record {
              event = next;
              minutes = minutes + minutes_of network
                  way;
              way = after;
            },
          ))
          here.found there.found
          (stands event next way n minutes on after leading is);
    },
    tt,
  )

  run_ways : (run : List PeriodicEvent) (n minutes : ℕ)
      → AllByRecursion Listed (enumerate_from n (timed_from network minutes run))
      → AllByRecursion (IsExpandedActivity events)
      (flat_map (λ (at : ℕ × TimedEvent). way_from at.1.event.kind at.0 at.1.way)
      (enumerate_from n (timed_from network minutes run)))
  unfolding timed_from
  run_ways [] n minutes listed = tt
  run_ways (event ∷ []) n minutes listed = tt
  run_ways (event ∷ next ∷ run) n minutes listed =
      let way = way_on network event (next ∷ run) in
      append_all (IsExpandedActivity events) (way_from event.kind n way)
      (flat_map (λ (at : ℕ × TimedEvent). way_from at.1.event.kind at.0 at.1.way)
      (enumerate_from (n + 1) (timed_from network (minutes + minutes_on network way) (next ∷ run))))
      (one_way event next n minutes way (way_on network next run) way
      (found_passes (leads (event, next)) network.activities)
      (found_has (IsFit network) (leads (event, next)) network.activities fit) listed.0 listed.1.0)
      (run_ways (next ∷ run) (n + 1) (minutes + minutes_on network way) listed.1)

module _ (network : TimedParts) (some : 1 ≤ network.period) (short : network.period ≤ 720)
    (fit : All (IsFit network) network.activities) (events : List ExpandedEvent) where
  trip_ways_good : (trip : TripParts) → IsRolled network trip
      → AllByRecursion (IsListed events) (trip_events trip)
      → AllByRecursion (IsExpandedActivity events) (trip_ways trip)
  trip_ways_good trip rolled listed =
      let each = mapped_all (IsListed events) (day_event trip.start)
      (enumerate_from trip.first trip.run) listed in
      subst (λ run. AllByRecursion (IsExpandedActivity events)
      (flat_map (λ (at : ℕ × TimedEvent). way_from at.1.event.kind at.0 at.1.way) (enumerate_from trip.first run)))
      (sym rolled.is)
      (run_ways network some short fit events trip.start rolled.periodic trip.first 0
      (subst (λ run. AllByRecursion (λ at. IsListed events (day_event trip.start at))
      (enumerate_from trip.first run))
      rolled.is each))

  -- the drives and waits of trips are accepted
  pub ways_good : (trips : List TripParts) → AllByRecursion (IsRolled network) trips
      → AllByRecursion (λ trip. AllByRecursion (IsListed events) (trip_events trip)) trips
      → AllByRecursion (IsExpandedActivity events) (day_ways trips)
  ways_good [] rolled listed = tt
  ways_good (trip ∷ trips) rolled listed =
      grind (arith, append_all, trip_ways_good, ways_good trips rolled.1 listed.1)
