-- The definitions on small texts: all faults of each, in their order.
use Rattle.plan_num.proofs.Common.{◌≡◌, ℕ, pos, true, false, List, [], ◌∷◌, ◌++◌, length, map, refl}
use Rattle.plan_num.proofs.Common.{codes, Some, None, flat_map}
use Rattle.tables.specs.declared.file_id.FileId.TheVariants as file
use Rattle.tables.specs.declared.row_why.RowWhy.TheVariants as why
use Rattle.tables.specs.declared.refusal.Refusal.{Refusal}
use Rattle.tables.proofs.Common.{records_of}
use Rattle.tables.specs.declared.refusal.Refusal.TheVariants as refusal
use Rattle.tables.specs.Inputs.{input_faults, row_faults}
use Rattle.tables.specs.Reading.{faults, table_of, cells_from, cell_of, errors, values, row_whys}
use Rattle.text_fields.specs.Rows.{rows, cleaned}
use Rattle.plan_num.specs.Number.{spelling_of, value_of, value_at, fixed_of, whole_of}
use Rattle.event_tables.specs.declared.expanded_event.ExpandedEvent.{ExpandedEvent}
use Rattle.event_tables.specs.declared.periodic_event.PeriodicEvent.{PeriodicEvent}
use Rattle.event_tables.specs.declared.periodic_kind.PeriodicKind.TheVariants as kind
use Rattle.event_tables.specs.Cells.{expanded_event, periodic_event}
use Rattle.event_tables.specs.Delays.{event_delay_input, activity_delay_input}
use Rattle.event_tables.specs.DisposedTimes.{disposed_time_input}
use Rattle.event_tables.specs.ExpandedFiles.{expanded_event_input, expanded_activity_input}
use Rattle.event_tables.specs.ForwardOrder.{stands_before, goes_forward}
use Rattle.event_tables.specs.PeriodicFiles.{periodic_event_input, periodic_event_ids, periodic_activity_input}
use Rattle.event_tables.specs.PeriodicFiles.{periodic_time_input}
use Rattle.event_tables.specs.PeriodicRuns.{runs_of, neighbours, joins}
use Rattle.event_tables.specs.Schedules.{schedule_input}
use Rattle.event_tables.specs.Trips.{trip_input}

-- ---- two lines in both directions, and their changes

abbrev periodic_text : List ℕ
periodic_text = codes "# e\n1; departure; 1; 1; >; 1\n2; arrival; 2; 1; >; 1\n3; departure; 2; 1; >; 1\n"
    ++ codes "4; arrival; 3; 1; >; 1\n5; departure; 3; 1; <; 1\n6; arrival; 2; 1; <; 1\n"
    ++ codes "7; departure; 2; 1; <; 1\n8; arrival; 1; 1; <; 1\n9; departure; 1; 2; >; 1\n"
    ++ codes "10; arrival; 2; 2; >; 1\n11; departure; 2; 2; <; 1\n12; arrival; 1; 2; <; 1\n"

abbrev periodic : List PeriodicEvent
periodic = records_of periodic_event_input periodic_text

abbrev ids : List ℕ
ids = 1 ∷ 2 ∷ 3 ∷ 4 ∷ 5 ∷ 6 ∷ 7 ∷ 8 ∷ 9 ∷ 10 ∷ 11 ∷ 12 ∷ []

events_in_runs :
    -- no fault
    (input_faults periodic_event_input periodic_text ≡ [])
    -- their ids
    × (periodic_event_ids periodic ≡ ids)
    × (input_faults periodic_event_input
    (codes "1; departure; 1; 1; >; 1\n3; arrival; 1; 1; >; 1\n3; departure; 1; 1; >; 1\n")
    ≡ refusal.BadRow file.EventsP 2 why.OrderGap ∷ [])
    -- four runs, each with its neighbours
    × (map length (runs_of periodic) ≡ 4 ∷ 4 ∷ 2 ∷ 2 ∷ [])
    -- their neighbours
    × (map {B = ℕ × ℕ}
    (λ pair. (pair.0.id, pair.1.id)) (flat_map neighbours (runs_of periodic))
    ≡ (1, 2) ∷ (2, 3) ∷ (3, 4) ∷ (5, 6) ∷ (6, 7) ∷ (7, 8) ∷ (9, 10) ∷ (11, 12) ∷ [])
    -- events that agree and stand apart are of two runs
    × (map length (runs_of (records_of periodic_event_input
    (codes "1; departure; 1; 1; >; 1\n2; departure; 1; 1; >; 2\n3; arrival; 2; 1; >; 1\n"))) ≡ 1 ∷ 1 ∷ 1 ∷ [])
unfolding input_faults row_faults faults table_of cells_from cell_of values errors row_whys rows cleaned
    spelling_of value_of value_at fixed_of whole_of runs_of
events_in_runs = (refl, refl, refl, refl, refl, refl)

-- events of a line, and one of another line at a stop of the first
abbrev at : ℕ → ℕ → ℕ → ℕ → PeriodicEvent
at id kind stop line = periodic_event (pos id ∷ pos kind ∷ pos stop ∷ pos line ∷ pos 0 ∷ pos 1 ∷ [])

rules_of_activities :
    -- a drive
    (joins kind.Drive (at 1 0 1 1) (at 2 1 2 1) ≡ true)
    -- no drive
    × (map (joins kind.Drive (at 1 0 1 1)) (at 3 1 2 1 ∷ at 2 1 2 2 ∷ []) ≡ false ∷ false
    ∷ [])
    -- drive from arrival
    × (joins kind.Drive (at 1 1 1 1) (at 2 1 2 1) ≡ false)
    -- waits and others
    × (map (joins kind.Wait (at 2 1 2 1)) (at 3 0 2 1 ∷ at 4 0 2 1 ∷ []) ≡ true
    ∷ false ∷ [])
    -- of another line, at the same stop, to a departure
    × (map (joins kind.Change (at 2 1 2 1)) (at 9 0 2 2 ∷ at 9 0 2 1 ∷ at 9 0 3 2
    ∷ at 9 1 2 2 ∷ []) ≡ true ∷ false ∷ false ∷ false ∷ [])
    -- syncs and others
    × (map (joins kind.Sync (at 1 0 1 1)) (at 9 0 3 2 ∷ at 9 1 3 2 ∷ []) ≡ true
    ∷ false ∷ [])
    -- of another stop, and an arrival
    × (map (joins kind.Headway (at 1 0 1 1)) (at 9 0 1 2 ∷ at 9 0 3 2 ∷ at 9 1 1 2 ∷ [])
    ≡ true ∷ false ∷ false ∷ [])
    -- of the rules that a row breaks each is told, in its order
    × (input_faults (periodic_activity_input ids)
    (codes "1; drive; 1; 2; 4; 5\n2; wait; 2; 13; 3; 1\n2; change; 2; 11; 5; 5\n4; headway; 13; 1; 0; 0\n")
    ≡ refusal.BadRow file.ActivitiesP 2 why.UnknownEvent
    ∷ refusal.BadRow file.ActivitiesP 2 why.BoundsCrossed
    ∷ refusal.BadRow file.ActivitiesP 3 why.OrderGap
    ∷ refusal.BadRow file.ActivitiesP 4 why.UnknownEvent ∷ [])
    -- time faults
    × (input_faults (periodic_time_input file.TimesP 20 (1 ∷ 2 ∷ 3 ∷ [])) (codes "1; 0\n2; 20\n4; 19\n")
    ≡ refusal.BadRow file.TimesP 2 why.OutOfPeriod ∷ refusal.BadRow file.TimesP 3 why.OrderGap
    ∷ refusal.BadRow file.TimesP 3 why.UnknownEvent ∷ refusal.BadRow file.TimesP 0 why.MissingEvent
    ∷ [])
unfolding input_faults row_faults faults table_of cells_from cell_of values errors row_whys rows cleaned
    spelling_of value_of value_at fixed_of whole_of
rules_of_activities = (refl, refl, refl, refl, refl, refl, refl, refl, refl)

-- ---- a day

-- an event of a day at a time: 0 for a departure, 1 for an arrival
abbrev on : ℕ → ℕ → ℕ → ExpandedEvent
on id kind time = expanded_event (pos id ∷ pos 1 ∷ pos kind ∷ pos time ∷ pos 1 ∷ [])

forward_order :
    -- earlier first
    (stands_before (on 2 0 9) (on 1 1 10) ≡ true)
    -- arrivals first
    × (map (stands_before (on 2 1 10)) (on 1 0 10 ∷ on 1 1 10 ∷ on 3 1 10 ∷ []) ≡ true
    ∷ false ∷ true ∷ [])
    -- ids last
    × (map (stands_before (on 2 0 10)) (on 3 0 10 ∷ on 2 0 10 ∷ on 1 0 10 ∷ on 9 1 10 ∷ [])
    ≡ true ∷ false ∷ false ∷ false ∷ [])
forward_order = (refl, refl, refl)

abbrev day : List ExpandedEvent
day = on 1 0 0 ∷ on 2 1 10 ∷ on 3 0 13 ∷ on 4 1 20 ∷ on 5 0 10 ∷ []

faults_of_days :
    -- an event that is not there has no place in the order
    (goes_forward day 1 6 ≡ false)
    -- expanded faults
    × (input_faults (expanded_activity_input day)
    (codes "1; 1; drive; 1; 2; 8; 10\n2; 1; wait; 2; 5; 0; 0\n3; 1; wait; 5; 2; 0; 0\n4; 1; wait; 2; 2; 0; 0\n5; 1; sync; 3; 1; 3; 2\n7; 1; drive; 1; 6; 8; 10\n")
    ≡ refusal.BadRow file.ActivitiesX 3 why.Backward
    ∷ refusal.BadRow file.ActivitiesX 4 why.Backward
    ∷ refusal.BadRow file.ActivitiesX 5 why.BoundsCrossed
    ∷ refusal.BadRow file.ActivitiesX 5 why.StraySync
    ∷ refusal.BadRow file.ActivitiesX 5 why.Backward
    ∷ refusal.BadRow file.ActivitiesX 6 why.OrderGap
    ∷ refusal.BadRow file.ActivitiesX 6 why.UnknownEvent
    ∷ refusal.BadRow file.ActivitiesX 6 why.Backward ∷ [])
    -- event faults
    × (input_faults expanded_event_input (codes "1; 1; departure; 0; 1\n1; 2; arrival; 10; 2\n")
    ≡ refusal.BadRow file.EventsX 2 why.OrderGap ∷ [])
unfolding input_faults row_faults faults table_of cells_from cell_of values errors row_whys rows cleaned
    spelling_of value_of value_at fixed_of whole_of
faults_of_days = (refl, refl, refl)

-- ---- trips

abbrev trip_text : List ℕ
trip_text = codes "1; 1; 1; 0; 2; 2; 2; 4; 1\n1; 1; 1; 0; 2; 2; 2; 4; 1\n"
    ++ codes "3; 1; 1; 0; 2; 2; 9; 4; 1\n4; 1; 9; 4; 2; 2; 2; 4; 1\n"

faults_of_trips :
    -- trip faults
    (input_faults (trip_input (Some (pos 1 ∷ pos 2 ∷ []))) trip_text
    ≡ refusal.BadRow file.Trips 2 why.RepeatedId ∷ refusal.BadRow file.Trips 3 why.UnknownStop
    ∷ refusal.BadRow file.Trips 4 why.UnknownStop ∷ refusal.BadRow file.Trips 4 why.Backward ∷ [])
    -- where the stops are not known, their rule is left out
    × (input_faults (trip_input None) trip_text
    ≡ refusal.BadRow file.Trips 2 why.RepeatedId ∷ refusal.BadRow file.Trips 4 why.Backward ∷ [])
unfolding input_faults row_faults faults table_of cells_from cell_of values errors row_whys rows cleaned
    spelling_of value_of value_at fixed_of whole_of
faults_of_trips = (refl, refl)

-- ---- a schedule

abbrev schedule_faults : List ℕ → List Refusal
schedule_faults text = input_faults (schedule_input day) text

rules_of_rides :
    -- a trip between unknown events is refused, and one that goes backward is not
    (schedule_faults
    (codes "1; 1; 1; TRIP; 2; 1; 1; 9; 1; 2; 2; 3; 1\n1; 1; 1; TRIP; 6; 1; 1; 9; 1; 2; 2; 3; 1\n")
    ≡ refusal.BadRow file.Schedule 2 why.UnknownEvent ∷ [])
    -- ends before start
    × (schedule_faults (codes "1; 1; 2; EMPTY; 2; 2; 2; 10; 3; 3; 2; 9; 0\n")
    ≡ refusal.BadRow file.Schedule 1 why.Backward ∷ [])
    -- no room
    × (schedule_faults (codes "1; 1; 2; EMPTY; 2; 2; 2; 10; 3; 3; 2; 14; 0\n")
    ≡ refusal.BadRow file.Schedule 1 why.Backward ∷ [])
    -- as many minutes as there are, whatever the times of the row are
    × (schedule_faults
    (codes "1; 1; 2; EMPTY; 2; 2; 2; 10; 3; 3; 2; 13; 0\n1; 1; 2; EMPTY; 2; 2; 2; 77; 3; 3; 2; 80; 0\n") ≡ [])
    -- a departure does not stand before an arrival of the same time
    × (schedule_faults (codes "1; 1; 2; EMPTY; 5; 2; 2; 10; 2; 3; 2; 10; 0\n")
    ≡ refusal.BadRow file.Schedule 1 why.Backward ∷ [])
unfolding input_faults row_faults faults table_of cells_from cell_of values errors row_whys rows cleaned
    spelling_of value_of value_at fixed_of whole_of
rules_of_rides = (refl, refl, refl, refl, refl)

-- ---- delays, and disposed times

faults_of_delays :
    -- delay faults
    (input_faults (event_delay_input (1 ∷ 2 ∷ 3 ∷ 4 ∷ [])) (codes "1; 5\n5; 5\n1; 0\n")
    ≡ refusal.BadRow file.EventDelays 2 why.UnknownEvent ∷ refusal.BadRow file.EventDelays 3 why.RepeatedId ∷ [])
    -- activity delay faults
    × (input_faults (activity_delay_input (1 ∷ 2 ∷ 3 ∷ [])) (codes "4; 1\n")
    ≡ refusal.BadRow file.ActivityDelays 1 why.UnknownActivity ∷ [])
    -- too late
    × (input_faults (event_delay_input (1 ∷ [])) (codes "1; 1000001\n")
    ≡ refusal.BadRow file.EventDelays 1 (why.OutOfRange 2) ∷ [])
    -- disposed faults
    × (input_faults (disposed_time_input (1 ∷ 2 ∷ 3 ∷ [])) (codes "1; 5\n3; 9\n4; 9\n")
    ≡ refusal.BadRow file.Disposed 2 why.OrderGap ∷ refusal.BadRow file.Disposed 3 why.OrderGap
    ∷ refusal.BadRow file.Disposed 3 why.UnknownEvent
    ∷ refusal.BadRow file.Disposed 0 why.MissingEvent ∷ [])
unfolding input_faults row_faults faults table_of cells_from cell_of values errors row_whys rows cleaned
    spelling_of value_of value_at fixed_of whole_of
faults_of_delays = (refl, refl, refl, refl)
