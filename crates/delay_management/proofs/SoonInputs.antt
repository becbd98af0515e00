-- Inputs without a fault gain little on the way, their changes stand by id, and no event is early.
use Rattle.plan_num.proofs.Common.{◌≡◌, ◌∙◌, ℕ, suc, ◌+◌, ◌-◌, ◌<◌, ◌≤◌, Bool, true, false, not}
use Rattle.plan_num.proofs.Common.{List, [], ◌∷◌, length, map, filter, get_or, All, Some, refl, ap}
use Rattle.plan_num.proofs.Common.{sym, arith, IsStrictlyIncreasing, ltb-false, not-false, not-true}
use Rattle.plan_num.proofs.Common.{ints, get_or-map, length-map, All-filter, All-map, filter_passes}
use Rattle.plan_num.proofs.Common.{AllPairs-filter, AllPairs}
use Rattle.tables.proofs.Common.{delays_columns, InColumns}
use Rattle.event_tables.specs.declared.delay_row.DelayRow.{DelayRow}
use Rattle.event_tables.specs.declared.expanded_activity.ExpandedActivity.{ExpandedActivity}
use Rattle.event_tables.specs.declared.expanded_event.ExpandedEvent.{ExpandedEvent}
use Rattle.event_tables.specs.declared.schedule_row.ScheduleRow.{ScheduleRow}
use Rattle.event_tables.proofs.Common.{delay_cells, expanded_activity, expanded_event, AreDelays}
use Rattle.event_tables.proofs.Common.{AreExpandedActivities, AreExpandedEvents, both_pass}
use Rattle.event_tables.proofs.Common.{event_with, AreNumbered, AreScheduleRows, IsScheduleRow}
use Rattle.event_tables.proofs.Common.{has_room, is_empty_row, find_numbered, id_at}
use Rattle.propagation.specs.declared.day_event.DayEvent.{DayEvent}
use Rattle.propagation.specs.declared.step.Activity.{Activity}
use Rattle.propagation.specs.declared.step.Step.{Step}
use Rattle.propagation.proofs.Common.{planned_rises, no_event, GainsLittle, DelayProblem}
use Rattle.propagation.proofs.Common.{GoesForward, event_at, minutes, planned_at, steps_with}
use Rattle.propagation.proofs.Common.{steps_all}
use Rattle.delay_management.specs.InputProblems.{activities_of, day_event, day_events, delay_of, delayed, earliest_of}
use Rattle.delay_management.specs.InputProblems.{index_of, is_of, problem_over, turn_of}

-- an event of a day is that of the row at its place
pub day_at : (events : List ExpandedEvent) (event : ℕ) → event < length events
    → event_at (day_events events) event ≡ day_event (get_or events event (expanded_event []))
day_at events event inside = get_or-map day_event events event (expanded_event []) no_event inside

pub delay_below : (rows : List DelayRow) → All (λ row. InColumns delays_columns (delay_cells row)) rows → (id : ℕ)
    → delay_of rows id ≤ 1000000
unfolding delay_of
delay_below [] fit id = omega arith
delay_below (row ∷ rows) fit id =
    let here = fit 0 row (omega arith) in grind (
      arith,
      ints,
      delay_below rows (λ k d h. fit (suc k)
          d (omega (arith, h))) id,
    )

-- an event is planned no later than at its earliest
pub none_early : (rows : List DelayRow) (events : List ExpandedEvent) (event : ℕ) → event < length events
    → planned_at (day_events events) event ≤ get_or (map (earliest_of rows) events) event 0
none_early rows events event inside = grind (arith, day_at, get_or-map)

-- changes stand by their ids
pub ids_rise : (changes : Bool) (rows : List DelayRow) (activities : List ExpandedActivity)
    → AreNumbered (λ activity. activity.id) activities
    → IsStrictlyIncreasing (map (λ change. change.id) (activities_of changes rows activities))
ids_rise changes rows activities are k within =
    let some = filter (is_of changes) activities in
    let made = activities_of changes rows activities in
    let long = length-map made (λ (change : Activity). change.id) in
    let size = length-map some (delayed rows) in
    let none : Activity = record { id = 0; step = record { from = 0; to = 0; lower = 0; extra = 0 } } in
    let first = get_or-map (λ (change : Activity). change.id) made k none 0 (omega (arith, within, long)) in
    let second = get_or-map (λ (change : Activity). change.id) made (k + 1) none 0 (omega (arith, within, long)) in
    let row = expanded_activity [] in
    let one = get_or-map (delayed rows) some k row none (omega (arith, within, long, size)) in
    let two = get_or-map (delayed rows) some (k + 1) row none (omega (arith, within, long, size)) in
    let up = AllPairs-filter (λ (x y : ExpandedActivity). x.id < y.id) (is_of changes) activities pairs k (k + 1) row
    (omega arith) (omega (arith, within, long, size)) in
    omega (arith, first, second, ap (λ (at : Activity). at.id) one, ap (λ (at : Activity). at.id) two, up)
  where
    pairs : AllPairs (λ (x y : ExpandedActivity). x.id < y.id) activities
    pairs i j d less inside =
        omega (
          arith,
          id_at (λ row. row.id) activities i d are (omega (arith, less, inside)),
          id_at
              (λ row. row.id) activities j d are inside,
          less,
        )

-- an activity that goes forward gains no more than what it takes
gains_by : (days : List DayEvent) (step : Step) → GoesForward days step
    → minutes step ≤ 1100000 → GainsLittle days step
gains_by days step goes few = grind (arith, planned_rises)

-- a turn has the minutes of its empty ride between its events as planned
room_for : (minutes : ℕ) (start end : ExpandedEvent) → has_room minutes start end ≡ true
    → start.time + minutes ≤ end.time
room_for minutes start end has = ltb-false end.time (start.time + minutes) (not-true _ has)

module _ (turnover : ℕ) (events : List ExpandedEvent) (activities : List ExpandedActivity)
    (schedule : List ScheduleRow) (event_rows activity_rows : List DelayRow)
    (are : AreExpandedEvents events) (activities_are : AreExpandedActivities events activities)
    (rows_are : AreScheduleRows events schedule)
    (delays_are : AreDelays (length activities) activity_rows) (few : turnover ≤ 10000) where
  abbrev problem : DelayProblem
  problem = problem_over turnover events activities schedule event_rows activity_rows

  abbrev days : List DayEvent
  days = day_events events

  short_activity : (row : ExpandedActivity) → row.lower ≤ 100000
      → minutes (delayed activity_rows row).step ≤ 1100000
  short_activity row low =
      let late = delay_below activity_rows delays_are.fit row.id in omega (arith, low, late)

  some_gain : (changes : Bool)
      → All (λ activity. GoesForward days activity.step) (activities_of changes activity_rows activities)
      → All (λ activity. GainsLittle days activity.step) (activities_of changes activity_rows activities)
  some_gain changes forward =
      let short : All (λ (activity : Activity). minutes activity.step ≤ 1100000)
      (activities_of changes activity_rows activities) =
      All-map (λ (activity : Activity). minutes activity.step ≤ 1100000) (delayed activity_rows)
      (filter (is_of changes) activities)
      (All-filter (is_of changes) (λ row. minutes (delayed activity_rows row).step ≤ 1100000) activities
      (λ k d inside.
      let row = get_or activities k d in
      let fit = activities_are.fit k d inside in
      short_activity row (omega (arith, ints, fit.1.1.1.1.1.0.1)))) in
      λ k d inside. gains_by days (get_or (activities_of changes activity_rows activities) k d).step
      (forward k d inside) (short k d inside)

  turns_gain : All (GainsLittle days) problem.turns
  turns_gain =
      All-map (GainsLittle days) (turn_of turnover) (filter is_empty_row schedule)
      (λ k d inside.
      let row = get_or (filter is_empty_row schedule) k d in
      let is : IsScheduleRow events row = All-filter is_empty_row
      (IsScheduleRow events) schedule rows_are.each k d inside in
      let ride = row.run.end.time - row.run.start.time in
      let start = get_or events (index_of row.run.start.event) (expanded_event []) in
      let end = get_or events (index_of row.run.end.event) (expanded_event []) in
      let found : both_pass (has_room ride) (event_with events row.run.start.event)
      (event_with events row.run.end.event) ≡ has_room ride start end =
      ap (λ first. both_pass (has_room ride) first (event_with events row.run.end.event))
      (find_numbered (λ event. event.id) row.run.start.event events (expanded_event []) are.numbered is.start)
      ∙ ap (both_pass (has_room ride) (Some start))
      (find_numbered (λ event. event.id) row.run.end.event events (expanded_event []) are.numbered is.end) in
      let has = not-false _ (is.room (filter_passes is_empty_row schedule k d inside)) in
      let room = room_for ride start end (sym found ∙ has) in
      let from = ap (λ (at : DayEvent). at.time)
      (day_at events (index_of row.run.start.event) (omega (arith, is.start.0, is.start.1))) in
      let to = ap (λ (at : DayEvent). at.time)
      (day_at events (index_of row.run.end.event) (omega (arith, is.end.0, is.end.1))) in
      omega (arith, room, few, from, to))

  pub steps_gain : All (GoesForward days) (steps_with problem problem.changes)
      → All (λ activity. GoesForward days activity.step) problem.rides
      → All (λ activity. GoesForward days activity.step) problem.changes
      → All (GainsLittle days) (steps_with problem problem.changes)
  steps_gain all rides changes =
      steps_all problem (GainsLittle days) problem.changes (some_gain false rides) (some_gain true changes) turns_gain
