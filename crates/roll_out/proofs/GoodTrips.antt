-- The trips of a day take time, and each has a start event of its own.
use Rattle.plan_num.proofs.Common.{◌≡◌, ℕ, ℤ, suc, pos, ◌+◌, ◌-◌, ◌<◌, ◌≤◌, arith, true, false, All}
use Rattle.plan_num.proofs.Common.{List, [], ◌∷◌, length, map, get_or, find, Some, subst, sym}
use Rattle.plan_num.proofs.Common.{IfSome, AllByRecursion, int_cmp, ints, All-from_recursion}
use Rattle.std.specs.List.Sorted.{IsStrictlySortedBy}
use Rattle.std.specs.declared.cmp.Ordering.TheVariants.{Less}
use Rattle.event_tables.specs.declared.event_kind.EventKind.{EventKind}
use Rattle.event_tables.specs.declared.periodic_activity.PeriodicActivity.{PeriodicActivity}
use Rattle.event_tables.specs.declared.periodic_event.PeriodicEvent.{PeriodicEvent}
use Rattle.event_tables.specs.declared.trip.Trip.{Trip}
use Rattle.event_tables.proofs.Common.{is_stop, lacks_stop, is_arrival, leads, same_kind}
use Rattle.event_tables.specs.declared.event_kind.EventKind.TheVariants as kinds
use Rattle.roll_out.specs.declared.day.Day.{Day}
use Rattle.event_tables.specs.RunRules as rules
use Rattle.roll_out.specs.declared.timed_event.TimedEvent.{TimedEvent}
use Rattle.roll_out.specs.DayTrips.{TripParts, no_timed, numbered_trips, trip_row, trips_of}
use Rattle.roll_out.specs.RolloutStage.{trip_rows}
use Rattle.roll_out.specs.TimedRuns.{TimedParts, minutes_on, timed_from, way_on}
use Rattle.plan_num.proofs.Found.{found_has}
use Rattle.roll_out.proofs.GoodRuns.{IsFit, IsGoodRun, IsIn, drive_takes, first_joined, found_passes, no_true}
use Rattle.roll_out.proofs.RolledTrips.{IsRolled, leads_kind}
use Rattle.roll_out.proofs.SoundPlans.{minutes_are, timed_size}

later_minutes : (network : TimedParts) (least minutes : ℕ) (run : List PeriodicEvent) → least
    ≤ minutes
    → AllByRecursion (λ (at : TimedEvent). least ≤ at.minutes) (timed_from network minutes run)
unfolding timed_from
later_minutes network least minutes [] low = tt
later_minutes network least minutes (event ∷ run) low =
    grind (
      arith,
      later_minutes network least (minutes + minutes_on network (way_on network event run)) run (omega (arith, low)),
    )

departure_drives : (kind : EventKind) (way : PeriodicActivity) → is_arrival kind ≡ false
    → same_kind way.kind (rules.way_on kind) ≡ true → rules.drives_at_once way ≡ false → 1
    ≤ way.lower
departure_drives kinds.Departure way departs is takes = drive_takes way is takes
departure_drives kinds.Arrival way departs is takes = no_true (sym departs)

module _ (network : TimedParts) (some : 1 ≤ network.period) (short : network.period ≤ 720)
    (fit : All (IsFit network) network.activities) where
  first_way : (event next : PeriodicEvent) (run : List PeriodicEvent) → is_arrival event.kind
      ≡ false
      → rules.unjoined_in network.activities (event ∷ next ∷ run) ≡ []
      → 1 ≤ minutes_on network (find (leads (event, next)) network.activities)
  first_way event next run departs joined =
      let found = first_joined network event next run joined in
      let passes = subst (λ way. IfSome way (λ way. leads (event, next) way ≡ true)) found.1
      (found_passes (leads (event, next)) network.activities) in
      let is = subst (λ way. IfSome way (IsFit network)) found.1
      (found_has (IsFit network) (leads (event, next)) network.activities fit) in grind (
        arith,
        departure_drives,
        leads_kind,
        minutes_are,
      )

  run_takes : (run : List PeriodicEvent) → IsGoodRun network run
      → (get_or (timed_from network 0 run) 0 no_timed).minutes
      < (get_or (timed_from network 0 run) (length (timed_from network 0 run) - 1) no_timed).minutes
  unfolding timed_from
  run_takes [] good = absurd (let more = good.more in omega (arith, more))
  run_takes (event ∷ []) good = absurd (let more = good.more in omega (arith, more))
  run_takes (event ∷ next ∷ run) good =
      let way = way_on network event (next ∷ run) in
      let rest = timed_from network (0 + minutes_on network way) (next ∷ run) in
      let later = first_way event next run good.departs good.joined in
      let all = All-from_recursion (λ (at : TimedEvent). 1 ≤ at.minutes) rest
      (later_minutes network 1 (0 + minutes_on network way) (next ∷ run) (omega (arith, later))) in
      let size = timed_size network (0 + minutes_on network way) (next ∷ run) in
      let e : suc (length rest) - 1 ≡ suc (length rest - 1) = omega (arith, size) in
      let last = all (length rest - 1) no_timed (omega (arith, size)) in
      subst (λ k. 0 < (get_or (record { event = event; minutes = 0; way = way } ∷ rest) k
      no_timed).minutes)
      (sym e) (omega (arith, last))

  -- a trip ends after it starts
  pub trip_takes : (trip : TripParts) → IsRolled network trip → (trip_row trip).start.time
      < (trip_row trip).end.time
  trip_takes trip rolled = grind (arith, get_or, run_takes)

-- ---- start events of their own

abbrev pub start_id : Trip → ℤ
start_id trip = pos trip.start.event

module _ (network : TimedParts) where
  rolled_size : (trip : TripParts) → IsRolled network trip → 1 ≤ length trip.run
  rolled_size trip rolled = grind (arith, timed_size)

  below_all : (least n : ℕ) (departures : List (ℕ × List TimedEvent)) → least < n
      → AllByRecursion (λ other. int_cmp (pos least) other ≡ Less)
      (map start_id (trip_rows (numbered_trips n departures)))
  unfolding numbered_trips
  below_all least n [] low = tt
  below_all least n (at ∷ departures) low =
      grind (arith, ints, below_all least (n + length at.1) departures (omega (arith, low)))

  rising : (n : ℕ) (departures : List (ℕ × List TimedEvent))
      → AllByRecursion (IsRolled network) (numbered_trips n departures)
      → IsStrictlySortedBy int_cmp (map start_id (trip_rows (numbered_trips n departures)))
  unfolding numbered_trips IsStrictlySortedBy
  rising n [] rolled = tt
  rising n (at ∷ departures) rolled =
      let size = rolled_size (record { first = n; start = at.0; run = at.1 }) rolled.0 in (
        below_all (n + 0) (n + length at.1) departures (omega (arith, size)),
        rising (n + length at.1) departures rolled.1,
      )

  -- the ids of start events rise
  pub starts_rise : (day : Day) → AllByRecursion (IsRolled network) (trips_of network day)
      → IsStrictlySortedBy int_cmp (map start_id (trip_rows (trips_of network day)))
  unfolding trips_of
  starts_rise day rolled = rising 1 _ rolled

-- ---- stops

first_of : (network : TimedParts) (P : PeriodicEvent → Type 0) (minutes : ℕ)
    (run : List PeriodicEvent) → AllByRecursion P run
    → AllByRecursion (λ (at : TimedEvent). P at.event) (timed_from network minutes run)
unfolding timed_from
first_of network P minutes [] all = tt
first_of network P minutes (event ∷ run) all =
    (all.0, first_of network P (minutes + minutes_on network (way_on network event run)) run all.1)

module _ (network : TimedParts) (stops : List ℤ)
    (at : All (λ event. is_stop stops event.stop ≡ true) network.events) where
  abbrev AtStop : PeriodicEvent → Type 0
  AtStop event = is_stop stops event.stop ≡ true

  in_stop : (event : PeriodicEvent) → IsIn network event → AtStop event
  in_stop event is = grind arith

  run_stops : (run : List PeriodicEvent) → AllByRecursion (IsIn network) run
      → AllByRecursion AtStop run
  run_stops [] within = tt
  run_stops (event ∷ run) within = (in_stop event within.0, run_stops run within.1)

  -- both ends of a trip are at stops
  pub trip_stops : (trip : TripParts) → IsRolled network trip
      → lacks_stop (Some stops) (trip_row trip) ≡ false
  trip_stops trip rolled =
      grind (arith, timed_size, All-from_recursion, first_of, run_stops, get_or)
