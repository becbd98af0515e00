-- The statistic of inputs without a fault can be printed.
use Rattle.plan_num.proofs.Common.{◌≡◌, ◌≤◌, ◌≤ℤ◌, ℕ, suc, ℤ, pos, neg_ℤ, ◌*◌, ◌+◌, ◌-◌, ◌+ℤ◌, ltb}
use Rattle.plan_num.proofs.Common.{true, Bool, false, cond, not, List, [], ◌∷◌, ◌++◌, length, map}
use Rattle.plan_num.proofs.Common.{filter, zip, get_or, refl, sym, subst, arith, All, None, fold}
use Rattle.plan_num.proofs.Common.{ints, length-map, All-filter, All-head, All-tail}
use Rattle.plan_num.proofs.Common.{length-filter_both, sum_by-le, mul-le}
use Rattle.tables.specs.declared.counted.Counted.TheVariants as counted
use Rattle.tables.specs.declared.file_id.FileId.TheVariants as file
use Rattle.giv_files.specs.declared.key.Key.TheVariants as key
use Rattle.giv_files.specs.declared.stage.Stage.TheVariants as stage
use Rattle.tables.proofs.Common.{input_faults, records_of, row_limit, few_rows, front_none}
use Rattle.tables.proofs.Common.{back_none}
use Rattle.giv_files.proofs.Common.{BundleParts, Fits, SettingsFit, amount, input_text}
use Rattle.giv_files.proofs.Common.{amount_within}
use Rattle.event_tables.specs.declared.periodic_kind.PeriodicKind.{PeriodicKind}
use Rattle.event_tables.specs.declared.expanded_event.ExpandedEvent.{ExpandedEvent}
use Rattle.event_tables.specs.declared.periodic_activity.PeriodicActivity.{PeriodicActivity}
use Rattle.event_tables.specs.declared.periodic_time.PeriodicTime.{PeriodicTime}
use Rattle.event_tables.specs.declared.schedule_row.ScheduleRow.{ScheduleRow}
use Rattle.event_tables.proofs.Common.{disposed_time_input, AreDisposedTimes, AreExpandedEvents}
use Rattle.event_tables.proofs.Common.{AreExpandedActivities, expanded_activity_input}
use Rattle.event_tables.proofs.Common.{expanded_event_ids, expanded_event_input}
use Rattle.event_tables.proofs.Common.{ArePeriodicActivities, periodic_activity_input}
use Rattle.event_tables.proofs.Common.{periodic_event_ids, periodic_event_input}
use Rattle.event_tables.proofs.Common.{periodic_time_input, same_kind, AreScheduleRows}
use Rattle.event_tables.proofs.Common.{is_empty_row, schedule_input, trip_input}
use Rattle.event_tables.proofs.Common.{expanded_activities_sound, expanded_events_sound}
use Rattle.event_tables.proofs.Common.{periodic_activities_sound, periodic_events_sound}
use Rattle.event_tables.proofs.Common.{disposed_times_sound, schedule_rows_sound}
use Rattle.event_tables.specs.declared.periodic_kind.PeriodicKind.TheVariants as kind
use Rattle.pesp.proofs.LeastTensions.{rest}
use Rattle.propagation.specs.declared.times.TheConstants.{LATEST}
use Rattle.propagation.proofs.Common.{is_missed, later, latest}
use Rattle.delay_management.specs.DayLateness.{arrives, lateness}
use Rattle.delay_management.specs.InputProblems.{delayed, is_of}
use Rattle.evaluators.specs.declared.day_values.DayValues.{DayValues}
use Rattle.evaluators.specs.Bounds.{IsSmall}
use Rattle.evaluators.specs.FirstRows.{firsts}
use Rattle.evaluators.specs.Statistic.{day_values, empty_minutes, line_values, minutes_late, minutes_of, minutes_of_row}
use Rattle.evaluators.specs.Statistic.{minutes_with, periodic_values, schedule_cost, times_of}
use Rattle.evaluators.specs.StatisticInputs.{concept_input, cost_input, lines_of}
use Rattle.evaluators.specs.StatisticStage.{bundle_day, costs_of, day_faults, day_in, day_part, events_of}
use Rattle.evaluators.specs.StatisticStage.{faults_between, faults_over, line_faults, line_part, lines_in, period_in}
use Rattle.evaluators.specs.StatisticStage.{periodic_events_of, periodic_part, statistic_faults, statistic_in}
use Rattle.evaluators.specs.StatisticStage.{trip_part}
use Rattle.evaluators.proofs.Bounded.{cost_sum_below, costs_below, lines_few, rows_few, times_below}
use Rattle.plan_num.proofs.Lists.{filter_few}

-- ---- lines

lines_small : (costs text : List ℕ) → line_faults costs text ≡ []
    → ((lines_in costs text).cost ≤ 200000000000000000000000) × ((lines_in costs text).running ≤
    200)
unfolding line_values
lines_small costs text none =
    let given = front_none (input_faults cost_input costs) _ none in
    let read = back_none (input_faults cost_input costs) _ none in
    let small = costs_below costs given in
    let lines = lines_of (records_of (concept_input (costs_of costs)) text) in
    let few = lines_few (costs_of costs) text small read in
    let runs = filter_few (λ row. ltb 0 row.frequency) lines in
    (cost_sum_below (costs_of costs) text small read, omega (arith, few, runs))

-- ---- the periodic timetable

module _ (period : ℕ) (some : 1 ≤ period) (short : period ≤ 720) (times : List PeriodicTime) where
  minutes_short : (activity : PeriodicActivity) → activity.lower ≤ 100000
      → minutes_of period times activity ≤ 100720
  minutes_short activity low = grind arith

  with_small : (count : ℕ) (activities : List PeriodicActivity) (k : PeriodicKind)
      → ArePeriodicActivities count activities
      → minutes_with period times activities k ≤ 20144000000
  with_small count activities k are =
      let of = λ (activity : PeriodicActivity). same_kind activity.kind k in
      let each : All (λ activity. minutes_of period times activity ≤ 100720) (filter of
      activities) =
      All-filter of (λ activity. minutes_of period times activity ≤ 100720) activities
      (λ i d inside. minutes_short (get_or activities i d)
      (let one = are.each i d inside in let fit = are.fit i d inside in
      omega (arith, ints, one.in_order, fit.1.1.1.1.1.0.1))) in
      let sum = sum_by-le (minutes_of period times) 100720 (filter of activities) each in
      let few = filter_few of activities in
      omega (arith, sum, few, are.few)

-- ---- the day

firsts_fewer : {X : Type 0} (key : X → ℤ) (rows : List X) → length (firsts key rows) ≤ length rows
unfolding firsts
firsts_fewer key [] = omega arith
firsts_fewer key (row ∷ rows) = grind (arith, rest, filter_few, firsts_fewer key rows)

minutes_small : (events : List ExpandedEvent) (rows : List ScheduleRow) → AreScheduleRows events
    rows
    → empty_minutes rows ≤ 4000000000000
minutes_small events rows are =
    let each : All (λ row. minutes_of_row row ≤ 1000000000) (filter is_empty_row rows) =
    All-filter is_empty_row (λ row. minutes_of_row row ≤ 1000000000) rows
    (λ k d inside. let fit = are.fit k d inside in
    omega (arith, ints, fit.1.1.1.1.1.1.1.1.1.1.1.0.1)) in
    let sum = sum_by-le minutes_of_row 1000000000 (filter is_empty_row rows) each in
    let few = filter_few is_empty_row rows in
    omega (arith, sum, few, rows_few events rows are)

late_below : (events : List ExpandedEvent) (times : List ℕ)
    → All (λ time. time ≤ LATEST) times
    → (time : ℕ) → time ≤ LATEST
    → latest time (map minutes_late (zip events times)) ≤ LATEST
late_below [] times all time h = h
late_below (event ∷ events) [] all time h = h
late_below (event ∷ events) (next ∷ times) all time h =
    let head = All-head (λ time. time ≤ LATEST) next times all in
    late_below events times (All-tail (λ time. time ≤ LATEST) next times all)
    (later time (next - event.time))
    (elim (ltb time (next - event.time)) as (λ b. cond b (next - event.time) time ≤
    LATEST)
    [ true ↦ omega (arith, head) | false ↦ h ])

-- the sum of how late events are, from a sum on, and a number that so many events can reach
abbrev late_sum : ℤ → List (ExpandedEvent × ℕ) → ℤ
late_sum sum some = fold (λ sum timed. sum +ℤ lateness timed) sum some

abbrev IsWithin : ℕ → ℤ → Type 0
IsWithin count sum = (sum ≤ℤ pos (count * LATEST))
    × (neg_ℤ (pos (count * LATEST)) ≤ℤ sum)

abbrev IsTime : ℕ → Type 0
IsTime time = time ≤ LATEST

abbrev IsPlanned : ExpandedEvent → Type 0
IsPlanned event = event.time ≤ LATEST

delay_within : (events : List ExpandedEvent) (times : List ℕ) → All IsTime times
    → All IsPlanned events → (sum : ℤ) (before : ℕ) → IsWithin before sum
    → IsWithin (before + length events) (late_sum sum (filter arrives (zip events times)))
delay_within [] times all planned sum before h =
    (omega (arith, ints, h.0), omega (arith, ints, h.1))
delay_within (event ∷ events) [] all planned sum before h =
    (omega (arith, ints, h.0), omega (arith, ints, h.1))
delay_within (event ∷ events) (time ∷ times) all planned sum before h =
    let head = All-head IsTime time times all in
    let first = All-head IsPlanned event events planned in
    let rest = delay_within events times (All-tail IsTime time times all)
    (All-tail IsPlanned event events planned) in
    by (arrives (event, time)) (rest (sum +ℤ lateness (event, time)) (suc before)
    (omega (arith, ints, h.0, head), omega (arith, ints, h.1, first)))
    (rest sum (suc before) (omega (arith, ints, h.0), omega (arith, ints, h.1)))
  where
    by : (b : Bool) → IsWithin (suc before + length events)
        (late_sum (sum +ℤ lateness (event, time)) (filter arrives (zip events times)))
        → IsWithin (suc before + length events) (late_sum sum (filter arrives (zip events times)))
        → IsWithin (before + suc (length events)) (late_sum sum (cond b ((event, time)
        ∷ filter arrives (zip events times)) (filter arrives (zip events times))))
    by true h k = (omega (arith, ints, h.0), omega (arith, ints, h.1))
    by false h k = (omega (arith, ints, k.0), omega (arith, ints, k.1))

record IsSmallDay (day : DayValues) : Type 0 where
  vehicles : day.vehicles ≤ 4000
  minutes : day.empty_minutes ≤ 4000000000000
  high : day.delay ≤ℤ pos 100000000000000000000000
  low : neg_ℤ (pos 100000000000000000000000) ≤ℤ day.delay
  greatest : day.greatest ≤ LATEST
  missed : day.missed ≤ 500000

module _ (events_text activities_text schedule_text disposed_text : List ℕ)
    (none : day_faults events_text activities_text schedule_text disposed_text ≡ []) where
  abbrev events : List ExpandedEvent
  events = events_of events_text

  first_faults : input_faults expanded_event_input events_text ≡ []
  first_faults = front_none (input_faults expanded_event_input events_text) _ none

  behind : faults_over events activities_text schedule_text disposed_text ≡ []
  behind = back_none (input_faults expanded_event_input events_text) _ none

  are_events : AreExpandedEvents events
  are_events = expanded_events_sound events_text first_faults

  are_activities : AreExpandedActivities events
      (records_of (expanded_activity_input events) activities_text)
  are_activities = grind (arith, expanded_activities_sound, are_events, front_none, behind)

  last_two : input_faults (schedule_input events) schedule_text
      ++ input_faults (disposed_time_input (expanded_event_ids events)) disposed_text ≡ []
  last_two = back_none (input_faults (expanded_activity_input events) activities_text) _ behind

  are_rows : AreScheduleRows events (records_of (schedule_input events) schedule_text)
  are_rows = grind (arith, schedule_rows_sound, are_events, front_none, last_two)

  are_times : AreDisposedTimes (length events)
      (records_of (disposed_time_input (expanded_event_ids events)) disposed_text)
  are_times =
      subst (λ ids. AreDisposedTimes (length events) (records_of (disposed_time_input ids)
      disposed_text))
      (sym are_events.numbered)
      (disposed_times_sound (length events) disposed_text
      (subst (λ ids. input_faults (disposed_time_input ids) disposed_text ≡ []) are_events.numbered
      (back_none (input_faults (schedule_input events) schedule_text) _ last_two)))

  day_small : IsSmallDay (day_in events_text activities_text schedule_text disposed_text)
  unfolding day_values
  day_small =
      let activities = records_of (expanded_activity_input events) activities_text in
      let schedule = records_of (schedule_input events) schedule_text in
      let times = times_of (records_of (disposed_time_input (expanded_event_ids events))
      disposed_text) in
      let soon = times_below (length events) _ are_times in
      let planned : All IsPlanned events = λ k d inside.
      let fit = are_events.fit k d inside in omega (arith, ints, fit.1.1.1.0.1) in
      let late = delay_within events times soon planned (pos 0) 0
      (omega (arith, ints), omega (arith, ints)) in
      let rows = rows_few events schedule are_rows in
      let vehicles = firsts_fewer (λ (row : ScheduleRow). pos row.vehicle) schedule in
      let some = filter (is_of true) activities in
      let missed = filter_few (is_missed times) (map (delayed []) some) in
      record {
        vehicles = omega (arith, rows, vehicles);
        minutes = minutes_small events schedule are_rows;
        high = omega (arith, ints, late.0, are_events.few);
        low = omega (arith, ints, late.1, are_events.few);
        greatest = late_below events times soon 0 (omega arith);
        missed = omega (
          arith,
          missed,
          length-map some (delayed []),
          filter_few (is_of true)
              activities,
          are_activities.few,
        );
      }

-- ---- all of it

costs_small : (by_vehicle by_minute : ℕ) (day : DayValues) → by_vehicle ≤ 1000000000000
    → by_minute ≤ 1000000000000 → IsSmallDay day
    → schedule_cost by_vehicle by_minute day ≤ 4000004000000000000000000
costs_small by_vehicle by_minute day v m small =
    let first = mul-le by_vehicle day.vehicles 1000000000000 4000 v small.vehicles in
    let second = mul-le by_minute day.empty_minutes 1000000000000 4000000000000 m small.minutes in
    omega (arith, first, second)

module _ (bundle : BundleParts) (own : bundle.stage ≡ stage.Statistic) (fits : Fits bundle)
    (none : statistic_faults bundle ≡ []) where
  setting_fits : SettingsFit stage.Statistic bundle.settings
  setting_fits = subst (λ of. SettingsFit of bundle.settings) own fits.settings

  period_within : (1 ≤ period_in bundle) × (period_in bundle ≤ 720)
  period_within = amount_within stage.Statistic bundle.settings key.PeriodLength _ _ setting_fits
      refl refl refl

  vehicle_costs : amount bundle.settings key.VsVehicleCosts ≤ 1000000000000
  vehicle_costs = (amount_within stage.Statistic bundle.settings key.VsVehicleCosts _ _ setting_fits
      refl refl refl).1

  empty_costs : amount bundle.settings key.VsEmptyCosts ≤ 1000000000000
  empty_costs = (amount_within stage.Statistic bundle.settings key.VsEmptyCosts _ _ setting_fits
      refl refl refl).1

  lines_none : line_part bundle ≡ []
  unfolding statistic_faults
  lines_none = front_none (line_part bundle) _ none

  periodic_none : periodic_part bundle ≡ []
  unfolding statistic_faults
  periodic_none = front_none (periodic_part bundle) _ (back_none (line_part bundle) _ none)

  trips_none : trip_part bundle ≡ []
  unfolding statistic_faults
  trips_none = front_none (trip_part bundle) _
      (back_none (periodic_part bundle) _ (back_none (line_part bundle) _ none))

  day_none : day_part bundle ≡ []
  unfolding statistic_faults
  day_none = back_none (trip_part bundle) _
      (back_none (periodic_part bundle) _ (back_none (line_part bundle) _ none))

  pub statistic_small : IsSmall (statistic_in bundle)
  unfolding statistic_in periodic_values
  statistic_small =
      let lines = lines_small (input_text bundle 0) (input_text bundle 1) lines_none in
      let events = periodic_events_of (input_text bundle 2) in
      let count = length events in
      let first = front_none (input_faults periodic_event_input (input_text bundle 2)) _
      periodic_none in
      let are = periodic_events_sound (input_text bundle 2) first in
      let both : faults_between (period_in bundle) events (input_text bundle 3) (input_text bundle
      4) ≡ [] =
      back_none (input_faults periodic_event_input (input_text bundle 2)) _ periodic_none in
      let second : input_faults (periodic_activity_input (periodic_event_ids events)) (input_text
      bundle 3) ≡ [] =
      front_none _ _ both in
      let activities : ArePeriodicActivities count (records_of (periodic_activity_input
      (periodic_event_ids events)) (input_text bundle 3)) =
      subst (λ ids. ArePeriodicActivities count (records_of (periodic_activity_input ids)
      (input_text bundle 3)))
      (sym are.numbered) (periodic_activities_sound count (input_text bundle 3)
      (subst (λ ids. input_faults (periodic_activity_input ids) (input_text bundle 3) ≡ [])
      are.numbered second)) in
      let times = records_of (periodic_time_input file.TimesP (period_in bundle)
      (periodic_event_ids events)) (input_text bundle 4) in
      let of = records_of (periodic_activity_input (periodic_event_ids events)) (input_text bundle
      3) in
      let within = period_within in
      let drive = with_small (period_in bundle) within.0 within.1 times count of kind.Drive
      activities in
      let wait = with_small (period_in bundle) within.0 within.1 times count of kind.Wait
      activities in
      let change = with_small (period_in bundle) within.0 within.1 times count of kind.Change
      activities in
      let cost = costs_small (amount bundle.settings key.VsVehicleCosts) (amount bundle.settings
      key.VsEmptyCosts) (bundle_day bundle) vehicle_costs empty_costs (day_small (input_text
      bundle 6) (input_text bundle 7) (input_text bundle 8) (input_text bundle 9) day_none) in
      let trips = few_rows (trip_input None) (input_text bundle 5) (row_limit counted.Trips 2000)
      [] refl trips_none in
      let day = day_small (input_text bundle 6) (input_text bundle 7) (input_text bundle 8)
      (input_text bundle 9) day_none in
      record {
        lines = omega (arith, lines.0);
        running = omega (arith, lines.1);
        events = omega (arith, are.few);
        activities = omega (arith, activities.few);
        drive = omega (arith, drive);
        wait = omega (arith, wait);
        change = omega (arith, change);
        trips = omega (arith, trips);
        vehicles = omega (arith, day.vehicles);
        empty = omega (arith, day.minutes);
        schedule = omega (arith, cost);
        early = omega (arith, ints, day.low);
        late = omega (arith, ints, day.high);
        greatest = omega (arith, day.greatest);
        missed = omega (arith, day.missed);
      }
