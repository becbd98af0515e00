-- The trips and the changes of a day are those that the words say.
use Rattle.plan_num.proofs.Common.{◌≡◌, ℕ, zero, suc, ◌+◌, ◌*◌, ◌/◌, ◌<◌, ◌==◌, nat_le, arith, true}
use Rattle.plan_num.proofs.Common.{◌&&◌, Contains, List, [], ◌∷◌, length, map, filter, get_or, refl}
use Rattle.plan_num.proofs.Common.{ap, subst, sym, ◌∙◌, flat_map, range_with_len, AllByRecursion}
use Rattle.plan_num.proofs.Common.{eq-eqb, eqb-true, le-leb, leb-true, All-contains_itself}
use Rattle.plan_num.proofs.Common.{All-from_recursion, recursion_from_All, div-add-mod'}
use Rattle.plan_num.proofs.Common.{mod-mul-add}
use Rattle.std.proofs.lemmas.Bool.{and_parts as both_true}
use Rattle.event_tables.specs.declared.expanded_activity.ExpandedActivity.{ExpandedActivity}
use Rattle.event_tables.specs.declared.expanded_event.ExpandedEvent.{ExpandedEvent}
use Rattle.event_tables.specs.declared.periodic_event.PeriodicEvent.{PeriodicEvent}
use Rattle.event_tables.proofs.Common.{runs_of}
use Rattle.roll_out.specs.declared.day.Day.{Day}
use Rattle.roll_out.specs.declared.timed_event.TimedEvent.{TimedEvent}
use Rattle.roll_out.specs.DayActivities.{change_copies, changes_from, change_copy, day_changes, is_change, is_copy, is_head}
use Rattle.roll_out.specs.DayInWords.{AreChangesOf, AreTripsOf, IsChangeOf, IsStart, IsTripOf}
use Rattle.roll_out.specs.DayTrips.{TripParts, departures_of, first_time, is_in_day, numbered_trips, starts, trips_of}
use Rattle.roll_out.specs.Plans.{IsDay, IsTimed}
use Rattle.roll_out.specs.TimedRuns.{TimedParts, minutes_of, timed_from}
use Rattle.roll_out.proofs.DayChangesGood.{mapped_from, parts_from, passing_all}
use Rattle.plan_num.proofs.Members.{Contains-cons, Contains-filter as contains_filter, Contains-flat_map as contains_part}
use Rattle.plan_num.proofs.Members.{Contains-map as contains_map, Contains-range as contains_range}
use Rattle.roll_out.proofs.SoundPlans.{ids_in, time_in}
use Rattle.roll_out.proofs.WholeRuns.{runs_some}
use Rattle.roll_out.proofs.Spaced.{div_low}

-- what starts is of a run of the timetable, at one of its starts
record IsDeparture (network : TimedParts) (day : Day) (start : ℕ) (events : List TimedEvent) : Type
    0 where
  run : List PeriodicEvent
  there : Contains (runs_of network.events) run
  starts : IsStart network day run start
  is : events ≡ timed_from network 0 run

module _ (network : TimedParts) (timed : IsTimed network) (day : Day) (in_week : IsDay day) where
  abbrev Sound : ℕ × List TimedEvent → Type 0
  Sound at = IsDeparture network day at.0 at.1

  first_in : (run : List PeriodicEvent) → Contains (runs_of network.events) run
      → first_time network run < network.period
  first_in run there = grind (arith, All-from_recursion, runs_some, ids_in, time_in, get_or)

  start_is : (run : List PeriodicEvent) → first_time network run < network.period → (time : ℕ)
      → (periods : ℕ) × (time ≡ first_time network run + periods * network.period)
      → is_in_day day time ≡ true
      → IsStart network day run time
  start_is run within time whole inside =
      let first = first_time network run in
      let e : first + whole.0 * network.period ≡ whole.0 * network.period + first = omega arith in
      grind (arith, both_true, nat_le, mod-mul-add, leb-true)

  run_starts : (run : List PeriodicEvent) → Contains (runs_of network.events) run
      → AllByRecursion Sound (departures_of network day run)
  run_starts run there =
      let first = first_time network run in
      let f : ℕ → ℕ = λ periods. first + periods * network.period in
      let numbers : List ℕ = range_with_len 0 (day.latest / network.period + 1) in
      mapped_from Sound (λ time. ((periods : ℕ) × (time ≡ first + periods * network.period))
      × (is_in_day day time ≡ true))
      (λ start. (start, timed_from network 0 run)) (λ time is. record {
        run = run;
        there = there;
        starts = start_is run (first_in run there) time is.0 is.1;
        is = refl;
      }) (starts network.period day first)
      (passing_all (λ time. (periods : ℕ) × (time ≡ first + periods * network.period))
      (is_in_day day) (map f numbers)
      (mapped_from (λ time. (periods : ℕ) × (time ≡ first + periods * network.period))
      (λ k. Unit {0}) f
      (λ k is. (k, refl)) numbers (any_number numbers)))
    where
      any_number : (xs : List ℕ) → AllByRecursion (λ k. Unit {0}) xs
      any_number [] = tt
      any_number (x ∷ xs) = (tt, any_number xs)

  numbered_sound : (n : ℕ) (departures : List (ℕ × List TimedEvent))
      → AllByRecursion Sound departures
      → AllByRecursion (IsTripOf network day) (numbered_trips n departures)
  unfolding numbered_trips
  numbered_sound n [] all = tt
  numbered_sound n (at ∷ departures) all =
      grind (arith, numbered_sound (n + length at.1) departures all.1)

  numbered_there : (n : ℕ) (departures : List (ℕ × List TimedEvent)) (time : ℕ)
      (events : List TimedEvent)
      → Contains departures (time, events)
      → (trip : TripParts) × Contains (numbered_trips n departures) trip × (trip.start ≡ time)
      × (trip.run ≡ events)
  unfolding numbered_trips
  numbered_there n [] time events (k, h, is) = absurd (omega (arith, h))
  numbered_there n (at ∷ departures) time events (zero, h, is) = (
    record { first = n; start = at.0; run = at.1 },
    (zero, omega arith, refl),
    ap
        (λ some. some.0) is,
    ap (λ some. some.1) is,
  )
  numbered_there n (at ∷ departures) time events (suc k, h, is) =
      grind (
        arith,
        Contains-cons,
        numbered_there (n + length at.1) departures time events (k, omega (arith, h), is),
      )

  starts_there : (run : List PeriodicEvent) (time : ℕ) → IsStart network day run time
      → Contains (starts network.period day (first_time network run)) time
  starts_there run time is =
      let first = first_time network run in
      let f : ℕ → ℕ = λ periods. first + periods * network.period in
      let k : ℕ = time / network.period in
      let parts = div-add-mod' time network.period in
      let due = is.due in
      let late = is.not_late in
      let e : f k ≡ time = omega (arith, parts, due) in
      let few = div_low k day.latest network.period timed.some (omega (arith, parts, late)) in
      let inside : is_in_day day time ≡ true =
      ap (λ b. b && nat_le time day.latest) (le-leb day.earliest time is.not_early)
      ∙ le-leb time day.latest is.not_late in
      contains_filter (is_in_day day) (map f (range_with_len 0 (day.latest / network.period + 1)))
      time
      (subst (Contains (map f (range_with_len 0 (day.latest / network.period + 1)))) e
      (contains_map f (range_with_len 0 (day.latest / network.period + 1)) k
      (contains_range 0 (day.latest / network.period + 1) k (omega arith) (omega (arith, few)))))
      inside

  -- the trips of a day
  pub trips_are_those : AreTripsOf network day (trips_of network day)
  unfolding trips_of
  trips_are_those = record {
    sound = All-from_recursion (IsTripOf network day) _ (numbered_sound 1 _
        (parts_from Sound (Contains (runs_of network.events)) (departures_of network day) run_starts
        (runs_of network.events)
        (recursion_from_All (Contains (runs_of network.events)) (runs_of network.events)
        (All-contains_itself (runs_of network.events)))));
    whole = λ run time there is.
        numbered_there 1 (flat_map (departures_of network day) (runs_of network.events)) time
        (timed_from network 0 run)
        (contains_part (departures_of network day) (runs_of network.events) run
        (time, timed_from network 0 run) there
        (contains_map (λ start. (start, timed_from network 0 run))
        (starts network.period day (first_time network run))
        time (starts_there run time is)));
  }

-- ---- changes

module _ (network : TimedParts) (events : List ExpandedEvent) where
  contained : {X : Type 0} (xs : List X) → AllByRecursion (Contains xs) xs
  contained xs = recursion_from_All (Contains xs) xs (All-contains_itself xs)

  change_sound : AllByRecursion (IsChangeOf network events) (day_changes network events)
  change_sound =
      parts_from (IsChangeOf network events)
      (λ way. Contains network.activities way × (is_change way ≡ true))
      (change_copies network events) (λ way is.
      parts_from (IsChangeOf network events)
      (λ tail. Contains events tail × (is_copy way.from tail ≡ true))
      (changes_from network events way) (λ tail from.
      mapped_from (IsChangeOf network events)
      (λ head. Contains events head × (is_head network way tail head ≡ true))
      (λ (head : ExpandedEvent). change_copy way tail.id head.id) (λ head to.
      let parts = both_true (is_copy way.to head) _ to.1 in grind (arith, eqb-true)) (filter
      (is_head network way tail) events)
      (passing_all (Contains events) (is_head network way tail) events (contained events)))
      (filter (is_copy way.from) events) (passing_all (Contains events) (is_copy way.from) events
      (contained events)))
      (filter is_change network.activities)
      (passing_all (Contains network.activities) is_change network.activities
      (contained network.activities))

  change_there : (row : ExpandedActivity) → IsChangeOf network events row
      → Contains (day_changes network events) row
  change_there row of =
      let way = of.change in
      let passes : is_head network way of.tail of.head ≡ true =
      ap (λ b. b && of.head.time == of.tail.time + minutes_of network way)
      (eq-eqb of.head.periodic way.to of.comes.1)
      ∙ eq-eqb of.head.time (of.tail.time + minutes_of network way) of.apart in
      subst (Contains (day_changes network events)) (sym of.is)
      (contains_part (change_copies network events) (filter is_change network.activities) way
      (change_copy way of.tail.id of.head.id)
      (contains_filter is_change network.activities way of.there of.kind)
      (contains_part (changes_from network events way) (filter (is_copy way.from) events) of.tail
      (change_copy way of.tail.id of.head.id)
      (contains_filter (is_copy way.from) events of.tail of.leaves.0
      (eq-eqb of.tail.periodic way.from of.leaves.1))
      (contains_map (λ (head : ExpandedEvent). change_copy way of.tail.id head.id)
      (filter (is_head network way of.tail) events) of.head
      (contains_filter (is_head network way of.tail) events of.head of.comes.0 passes))))

  -- the changes of a day
  pub changes_are_those : AreChangesOf network events (day_changes network events)
  changes_are_those = grind (arith, All-from_recursion, change_sound, change_there)
