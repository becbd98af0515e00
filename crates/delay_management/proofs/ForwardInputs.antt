-- Inputs without a fault go forward.
use Rattle.plan_num.proofs.Common.{◌≡◌, ◌∙◌, ℕ, ◌+◌, ◌<◌, ◌≤◌, Bool, true, false, not, List, length}
use Rattle.plan_num.proofs.Common.{filter, get_or, All, refl, ap, sym, arith, range_with_len}
use Rattle.plan_num.proofs.Common.{length-map, All-append, All-filter, All-map, All-weaker}
use Rattle.plan_num.proofs.Common.{filter_passes, length-filter_both, map-map}
use Rattle.event_tables.specs.declared.delay_row.DelayRow.{DelayRow}
use Rattle.event_tables.specs.declared.expanded_activity.ExpandedActivity.{ExpandedActivity}
use Rattle.event_tables.specs.declared.expanded_event.ExpandedEvent.{ExpandedEvent}
use Rattle.event_tables.specs.declared.schedule_row.ScheduleRow.{ScheduleRow}
use Rattle.event_tables.proofs.Common.{AreDelays, AreExpandedActivities, AreExpandedEvents}
use Rattle.event_tables.proofs.Common.{IsExpandedActivity, goes_forward, AreNumbered, IsOneOf}
use Rattle.event_tables.proofs.Common.{AreScheduleRows, IsScheduleRow, is_empty_row, at, at_places}
use Rattle.event_tables.proofs.Common.{id_at}
use Rattle.event_tables.specs.ForwardOrder.{stands_before as rows_before}
use Rattle.propagation.specs.declared.day_event.DayEvent.{DayEvent}
use Rattle.propagation.specs.declared.step.Activity.{Activity}
use Rattle.propagation.specs.declared.step.Step.{Step}
use Rattle.propagation.proofs.Common.{stands_before, IsDay, parts_of, DelayProblem, GoesForward}
use Rattle.propagation.proofs.Common.{IsForward, steps_all}
use Rattle.delay_management.specs.InputProblems.{activities_of, day_event, day_events, delayed, earliest_of, index_of}
use Rattle.delay_management.specs.InputProblems.{is_of, problem_over, turn_of}
use Rattle.delay_management.proofs.SoonInputs.{day_at, ids_rise, none_early, steps_gain}

forward_step : (events : List ExpandedEvent) (from to : ℕ) (step : Step)
    → AreNumbered (λ event. event.id) events → step.from ≡ index_of from → step.to ≡ index_of to
    → IsOneOf (length events) from → IsOneOf (length events) to → goes_forward events from to ≡ true
    → GoesForward (day_events events) step
forward_step events from to step are first second one other goes =
    let count = length-map events day_event in
    let low : step.from < length events = omega (arith, first, one.0, one.1) in
    let high : step.to < length events = omega (arith, second, other.0, other.1) in
    record {
      from = omega (arith, low, count);
      to = omega (arith, high, count);
      before = (λ i. stands_before (day_at events step.from low i) (day_at events step.to high i))
          ∙ (λ i. rows_before (at events (first i)) (at events (second i)))
          ∙ at_places events from to are one other goes;
    }

-- each change or none is one of both
both_kinds : (row : ExpandedActivity) → is_of false row ≡ not (is_of true row)
both_kinds row = refl

module _ (turnover : ℕ) (events : List ExpandedEvent) (activities : List ExpandedActivity)
    (schedule : List ScheduleRow) (event_rows activity_rows : List DelayRow)
    (are : AreExpandedEvents events) (activities_are : AreExpandedActivities events activities)
    (rows_are : AreScheduleRows events schedule) where
  abbrev problem : DelayProblem
  problem = problem_over turnover events activities schedule event_rows activity_rows

  abbrev days : List DayEvent
  days = day_events events

  count : length days ≡ length events
  count = length-map events day_event

  some_forward : (changes : Bool)
      → All (λ activity. GoesForward days activity.step) (activities_of changes activity_rows activities)
  some_forward changes =
      All-map (λ activity. GoesForward days activity.step) (delayed activity_rows) (filter (is_of changes) activities)
      (All-weaker (IsExpandedActivity events) (λ row. GoesForward days (delayed activity_rows row).step)
      (λ row is. forward_step events row.from row.to
      (delayed activity_rows row).step are.numbered refl refl is.from is.to is.forward)
      (filter (is_of changes) activities)
      (All-filter (is_of changes) (IsExpandedActivity events) activities activities_are.each))

  turns_forward : All (GoesForward days) problem.turns
  turns_forward =
      All-map (GoesForward days) (turn_of turnover) (filter is_empty_row schedule)
      (λ k d inside.
      let row = get_or (filter is_empty_row schedule) k d in
      let is : IsScheduleRow events row = All-filter is_empty_row
      (IsScheduleRow events) schedule rows_are.each k d inside in
      forward_step events row.run.start.event row.run.end.event
      (turn_of turnover row) are.numbered refl refl is.start is.end
      (is.forward (filter_passes is_empty_row schedule k d inside)))

  pub inputs_go_forward : IsForward problem
  inputs_go_forward = record {
    each = length-map events (earliest_of event_rows) ∙ sym count;
    steps = steps_all problem (GoesForward days) problem.changes (some_forward false) (some_forward true) turns_forward;
  }

  pub few_of : (changes : Bool) → length (activities_of changes activity_rows activities) ≤ 500000
  few_of changes = by changes (length-filter_both (is_of true) (is_of false) both_kinds activities)
    where
      by : (changes : Bool) → length (filter (is_of true) activities) + length (filter (is_of false) activities)
          ≡ length activities
          → length (activities_of changes activity_rows activities) ≤ 500000
      by true sum = omega (
        arith,
        sum,
        length-map (filter (is_of true) activities)
            (delayed activity_rows),
        activities_are.few,
      )
      by false sum = omega (
        arith,
        sum,
        length-map (filter (is_of false) activities)
            (delayed activity_rows),
        activities_are.few,
      )

  pub ids_below : All (λ row. row.id ≤ 500000) activities
  ids_below k d inside = grind (arith, id_at)

  pub some_ids : (changes : Bool) → All (λ activity. activity.id ≤ 500000)
      (activities_of changes activity_rows activities)
  some_ids changes =
      All-map (λ activity. activity.id ≤ 500000) (delayed activity_rows) (filter (is_of changes) activities)
      (All-filter (is_of changes) (λ row. row.id ≤ 500000) activities ids_below)

  few_steps : length problem.rides + (length problem.turns + length problem.changes) ≤ 502000
  few_steps = grind (arith, length-filter_both, both_kinds, length-map)

  module _ (delays_are : AreDelays (length activities) activity_rows) (turns_few : turnover ≤ 10000) where
    pub rows_are_day : All (λ time. time ≤ 8589934590) problem.earliest → IsDay problem
    rows_are_day soon = record {
      numbered = map-map (λ (day : DayEvent). day.id) day_event events ∙ are.numbered
          ∙ ap (range_with_len 1) (sym count);
      few = omega (arith, are.few, count);
      forward = inputs_go_forward;
      ids = All-append (λ activity. activity.id ≤ 500000) problem.rides problem.changes (some_ids false)
          (some_ids true);
      rise = ids_rise true activity_rows activities activities_are.numbered;
      late = λ event inside. none_early event_rows events event (omega (arith, inside, count));
      soon = soon;
      gains = steps_gain turnover events activities schedule event_rows activity_rows are activities_are rows_are
          delays_are turns_few inputs_go_forward.steps (some_forward false) (some_forward true);
      few_changes = few_of true;
      few_steps = few_steps;
    }

    -- the same of what was made of the rows
    pub day_as : (days : List DayEvent) (earliest : List ℕ) (rides changes : List Activity)
        (turns : List Step) → days ≡ problem.events → earliest ≡ problem.earliest
        → rides ≡ problem.rides → changes ≡ problem.changes → turns ≡ problem.turns
        → All (λ time. time ≤ 8589934590) earliest
        → IsDay (parts_of days earliest rides changes turns)
    day_as days earliest rides changes turns d e r h t soon = grind (arith, rows_are_day)
