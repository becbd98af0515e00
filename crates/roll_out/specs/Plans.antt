-- Inner words: runs with how often they start, and where the copies of their events are.
use Rattle.std.specs.Prelude.{Bool, slice_set, ◌<◌, ◌&&◌, ◌||◌, ℕ, ◌≡◌, ◌+◌, ◌-◌, ◌*◌, ◌/◌, ◌==◌, ◌≤◌, nat_le, if◌then◌else◌, List, [], ◌∷◌, ◌++◌, length, map, filter, get_or, sum_by, All, IfSome}
use Rattle.std.specs.Int.{div_ceil}
use Rattle.std.specs.List.{flat_map, range_with_len, enumerate_from}
use Rattle.tables.specs.Columns.{events_p_columns, activities_p_columns}
use Rattle.tables.specs.Writing.{InColumns}
use Rattle.event_tables.specs.declared.expanded_activity.ExpandedActivity.{ExpandedActivity}
use Rattle.event_tables.specs.declared.periodic_activity.PeriodicActivity.{PeriodicActivity}
use Rattle.event_tables.specs.declared.periodic_event.PeriodicEvent.{PeriodicEvent}
use Rattle.event_tables.specs.declared.periodic_kind.PeriodicKind.TheVariants as kind
use Rattle.event_tables.specs.RunRules.{same_kind}
use Rattle.event_tables.specs.PeriodicFiles.{ArePeriodicEvents, ArePeriodicActivities, ArePeriodicTimes, IsPeriodicActivity}
use Rattle.event_tables.specs.Cells.{periodic_event_cells, periodic_activity_cells}
use Rattle.roll_out.specs.declared.copies.Copies.{Copies}
use Rattle.roll_out.specs.declared.day.Day.{Day}
use Rattle.roll_out.specs.declared.timed_event.TimedEvent.{TimedEvent}
use Rattle.roll_out.specs.DayActivities.{change_copy, day_changes, is_change}
use Rattle.roll_out.specs.DayTrips.{TripParts, day_events, first_time}
use Rattle.roll_out.specs.TimedRuns.{TimedParts, minutes_of, timed_from}

-- what always holds of a timetable that was read
pub record IsTimed (network : TimedParts) : Type 0 where
  pub some : 1 ≤ network.period
  pub short : network.period ≤ 720
  pub events_are : ArePeriodicEvents network.events
  pub activities_are : ArePeriodicActivities (length network.events) network.activities
  pub times_are : ArePeriodicTimes network.period (length network.events) network.times

-- an activity between the events of a timetable, in its columns
pub record IsBetween (network : TimedParts) (activity : PeriodicActivity) : Type 0 where
  pub sound : IsPeriodicActivity (length network.events) activity
  pub fits : InColumns activities_p_columns (periodic_activity_cells activity)

-- a drive or a wait, and one that leaves the event of an id
abbrev pub is_way : PeriodicActivity → Bool
is_way activity = same_kind activity.kind kind.Drive || same_kind activity.kind kind.Wait

abbrev pub leaves : ℕ → PeriodicActivity → Bool
leaves id activity = is_way activity && activity.from == id

-- of each of so many events the drives and waits that leave it
pub record AreWays (events : ℕ) (activities : List PeriodicActivity)
    (rows : List (List PeriodicActivity)) : Type 0 where
  pub size : length rows ≡ events
  pub each : (place : ℕ) → place < events
      → get_or rows place [] ≡ filter (leaves (place + 1)) activities

-- an activity is noted at the event that it leaves if it is a drive or a wait
abbrev pub NotesWay : PeriodicActivity → List (List PeriodicActivity)
    → List (List PeriodicActivity) → Type 0
NotesWay activity old new =
    new ≡ (if is_way activity
    then slice_set old (activity.from - 1) (get_or old (activity.from - 1) [] ++ activity ∷ [])
    else old)

-- a day that ends within a week
abbrev pub IsDay : Day → Type 0
IsDay day = (day.earliest ≤ 10080) × (day.latest ≤ 10080)

-- a run with its first start in a day, and how many starts there are
pub record PlanParts : Type 0 where
  pub run : List TimedEvent
  pub start : ℕ
  pub trips : ℕ

-- the first time in or after a day that is whole periods after a time
abbrev pub first_start : ℕ → Day → ℕ → ℕ
first_start period day time = time + div_ceil (day.earliest - time) period * period

-- how many there are, by the first one
abbrev pub start_count : ℕ → Day → ℕ → ℕ
start_count period day start =
    if nat_le start day.latest then (day.latest - start) / period + 1 else 0

abbrev pub plan_of : TimedParts → Day → List PeriodicEvent → PlanParts
plan_of network day run =
    let start = first_start network.period day (first_time network run) in
    record {
      run = timed_from network 0 run;
      start = start;
      trips = start_count network.period day start;
    }

-- how many trips, events, and drives and waits plans come to
abbrev pub trip_total : List PlanParts → ℕ
trip_total plans = sum_by (λ plan. plan.trips) plans

abbrev pub event_total : List PlanParts → ℕ
event_total plans = sum_by (λ plan. plan.trips * length plan.run) plans

-- the trip of a plan, after so many earlier ones
abbrev pub trip_after : ℕ → ℕ → PlanParts → ℕ → TripParts
trip_after period first plan earlier = record {
  first = first + earlier * length plan.run;
  start = plan.start + earlier * period;
  run = plan.run;
}

-- the trips of a plan, whose events are numbered from an id on
abbrev pub plan_trips : ℕ → ℕ → PlanParts → List TripParts
plan_trips period first plan = map (trip_after period first plan) (range_with_len 0 plan.trips)

-- the trips of plans
unfoldable pub trips_by : ℕ → ℕ → List PlanParts → List TripParts
trips_by period first [] = []
trips_by period first (plan ∷ plans) =
    plan_trips period first plan
    ++ trips_by period (first + plan.trips * length plan.run) plans

-- where the copies of an event are, by its place in a run
abbrev pub copies_at : ℕ → PlanParts → ℕ × TimedEvent → Copies
copies_at first plan at = record {
  first = first + at.0;
  step = length plan.run;
  start = plan.start + at.1.minutes;
  count = plan.trips;
}

-- the same for the events of a plan, and of plans
abbrev pub plan_copies : ℕ → PlanParts → List Copies
plan_copies first plan = map (copies_at first plan) (enumerate_from 0 plan.run)

unfoldable pub copies_by : ℕ → List PlanParts → List Copies
copies_by first [] = []
copies_by first (plan ∷ plans) =
    plan_copies first plan ++ copies_by (first + plan.trips * length plan.run) plans

-- copies that are not there
abbrev pub no_copies : Copies
no_copies = record { first = 0; step = 0; start = 0; count = 0 }

-- the copies of the event of an id
abbrev pub copies_with : List Copies → ℕ → Copies
copies_with copies id = get_or copies (id - 1) no_copies

-- the id and the time of a copy, after so many earlier ones
abbrev pub copy_id : Copies → ℕ → ℕ
copy_id copies earlier = copies.first + earlier * copies.step

abbrev pub copy_time : ℕ → Copies → ℕ → ℕ
copy_time period copies earlier = copies.start + earlier * period

-- the ids of the copies at a time
abbrev pub ids_at : ℕ → Copies → ℕ → List ℕ
ids_at period copies time =
    map (copy_id copies)
    (filter (λ earlier. copy_time period copies earlier == time)
    (range_with_len 0 copies.count))

-- the copies of a change from a copy of its tail
abbrev pub changes_at : TimedParts → List Copies → PeriodicActivity → ℕ → List ExpandedActivity
changes_at network copies activity earlier =
    let tail = copies_with copies activity.from in
    map (change_copy activity (copy_id tail earlier))
    (ids_at network.period (copies_with copies activity.to)
    (copy_time network.period tail earlier + minutes_of network activity))

-- the copies of an activity that is a change
abbrev pub changes_by : TimedParts → List Copies → PeriodicActivity → List ExpandedActivity
changes_by network copies activity =
    flat_map (changes_at network copies activity)
    (range_with_len 0 (copies_with copies activity.from).count)

-- the copies of an activity, if it is a change
abbrev pub changes_if : TimedParts → List Copies → PeriodicActivity → List ExpandedActivity
changes_if network copies activity =
    if is_change activity then changes_by network copies activity else []

-- an event of a run whose numbers are small
pub record IsTimely (at : TimedEvent) : Type 0 where
  pub fits : InColumns events_p_columns (periodic_event_cells at.event)
  pub way_fits : IfSome at.way
      (λ way. InColumns activities_p_columns (periodic_activity_cells way))
  pub soon : at.minutes ≤ 402880000

-- a plan whose numbers are small
pub record IsPlan (plan : PlanParts) : Type 0 where
  pub some : 1 ≤ length plan.run
  pub early : plan.start ≤ 10800
  pub timely : All IsTimely plan.run
  pub short : length plan.run ≤ 4000
  pub few : plan.trips ≤ 10081

-- copies whose numbers are small
pub record AreFew (copies : Copies) : Type 0 where
  pub low : 1 ≤ copies.first
  pub first : copies.first ≤ 200000
  pub step : copies.step ≤ 4000
  pub start : copies.start ≤ 402890800
  pub count : copies.count ≤ 2000

-- a trip with some events, whose numbers are small
pub record IsTrip (trip : TripParts) : Type 0 where
  pub low : 1 ≤ trip.first
  pub some : 1 ≤ length trip.run
  pub ids : trip.first + length trip.run ≤ 100001
  pub short : length trip.run ≤ 4000
  pub early : trip.start ≤ 2000000
  pub timely : All IsTimely trip.run

-- the plans of a timetable: each event is at one place, in order
pub record ArePlans (network : TimedParts) (plans : List PlanParts) : Type 0 where
  pub each : All IsPlan plans
  pub few : length plans ≤ 4000
  pub placed : flat_map (λ plan. map (λ at. at.event.id) plan.run) plans
      ≡ range_with_len 1 (length network.events)

-- the trips of a day and the copies of its events, few enough to be written
pub record IsSmallDay (network : TimedParts) (trips : List TripParts) (copies : List Copies)
    : Type 0
  where
    pub timed : IsTimed network
    pub trips_are : All IsTrip trips
    pub few_trips : length trips ≤ 2000
    pub few_events : length (day_events trips) ≤ 100000
    pub copies_are : All AreFew copies
    pub each : length copies ≡ length network.events
    pub changes : flat_map (changes_if network copies) network.activities
        ≡ day_changes network (day_events trips)
