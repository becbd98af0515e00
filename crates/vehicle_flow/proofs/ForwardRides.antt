-- An empty ride between two trips goes forward over the events of the day.
use Rattle.plan_num.proofs.Common.{◌≡◌, ℕ, ◌+◌, ◌≤◌, ◌==◌, ◌||◌, Bool, true, false, cond, not, List}
use Rattle.plan_num.proofs.Common.{[], ◌∷◌, Some, refl, ap, ◌∙◌, arith, list_any, le-ltb, none-some}
use Rattle.event_tables.specs.declared.event_kind.EventKind.{EventKind}
use Rattle.event_tables.specs.declared.expanded_event.ExpandedEvent.{ExpandedEvent}
use Rattle.event_tables.specs.declared.schedule_row.ScheduleRow.{ScheduleRow}
use Rattle.event_tables.specs.declared.trip.TripEnd.{TripEnd}
use Rattle.event_tables.proofs.Common.{expanded_event_ids, both_pass, event_with, stands_before}
use Rattle.event_tables.proofs.Common.{is_arrival, is_none_of, ends_early, goes_back, lacks_room}
use Rattle.event_tables.specs.declared.event_kind.EventKind.TheVariants as kinds
use Rattle.vehicle_flow.specs.AcceptedSchedules.{IsPlanned}

-- ---- an event that is found is there

known : (events : List ExpandedEvent) (id : ℕ) (event : ExpandedEvent)
    → event_with events id ≡ Some event → is_none_of (expanded_event_ids events) id ≡ false
known [] id event found = absurd (none-some event found)
known (first ∷ events) id event found = split (id == first.id) found (known events id event)
  where
    split : (b : Bool) → cond b (Some first) (event_with events id) ≡ Some event
        → (event_with events id ≡ Some event → is_none_of (expanded_event_ids events) id ≡ false)
        → not (b || list_any (λ other. id == other) (expanded_event_ids events)) ≡ false
    split true found rest = refl
    split false found rest = rest found

pub planned_known : (events : List ExpandedEvent) (end : TripEnd) (kind : EventKind)
    → IsPlanned events kind end → is_none_of (expanded_event_ids events) end.event ≡ false
planned_known events end kind is = known events end.event is.event is.there

-- ---- an arrival stands before a departure that is not earlier

ride_stands : (event other : ExpandedEvent) → is_arrival event.kind ≡ true
    → is_arrival other.kind ≡ false → event.time ≤ other.time → stands_before event other ≡ true
ride_stands event other arrives departs soon = grind arith

-- ---- an empty ride, from the end of a trip to the start of another

module _ (events : List ExpandedEvent) (row : ScheduleRow) (after : TripEnd)
    (from : IsPlanned events kinds.Arrival row.run.start)
    (to : IsPlanned events kinds.Departure after)
    (at : row.run.end.event ≡ after.event) (minutes : ℕ)
    (long : row.run.end.time ≡ row.run.start.time + minutes)
    (soon : row.run.start.time + minutes ≤ after.time) where
  found : event_with events row.run.end.event ≡ Some to.event
  found = ap (event_with events) at ∙ to.there

  early : ends_early row ≡ false
  early = le-ltb row.run.end.time row.run.start.time (omega (arith, long))

  both : (test : ExpandedEvent → ExpandedEvent → Bool) → test from.event to.event ≡ true
      → both_pass test (event_with events row.run.start.event) (event_with events row.run.end.event)
      ≡ true
  both test passes = grind arith

  room : lacks_room events row ≡ false
  room = grind arith

  back : goes_back events row ≡ false
  back = ap not (both stands_before (ride_stands from.event to.event
      (ap is_arrival from.is) (ap is_arrival to.is) (omega (arith, soon, from.time, to.time))))

  pub goes : (ends_early row || lacks_room events row || goes_back events row) ≡ false
  goes = ap (λ b. b || lacks_room events row || goes_back events row) early
      ∙ ap (λ b. b || goes_back events row) room ∙ back
