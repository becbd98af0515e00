-- The definitions on small datasets.
use Rattle.std.specs.Prelude.{⊤}
use Rattle.plan_num.proofs.Common.{◌≡◌, ℕ, ℤ, List, [], ◌∷◌, ◌++◌, refl, pos, negsuc, codes, Ok}
use Rattle.plan_num.proofs.Common.{Option, Some, None, true, false}
use Rattle.std.specs.Fmt.{digits}
use Rattle.tables.specs.declared.file_id.FileId.TheVariants as file
use Rattle.giv_files.specs.declared.key.Key.TheVariants as key
use Rattle.giv_files.specs.declared.made.Made.{Made}
use Rattle.giv_files.proofs.Common.{BundleParts}
use Rattle.tables.specs.declared.row_why.RowWhy.TheVariants as why
use Rattle.tables.specs.declared.refusal.Refusal.TheVariants as refusal
use Rattle.giv_files.specs.declared.stage.Stage.TheVariants as stage
use Rattle.tables.specs.Inputs.{input_faults, row_faults}
use Rattle.tables.specs.Reading.{faults, table_of, cells_from, cell_of, errors, values, row_whys}
use Rattle.tables.specs.Writing.{cell_text, cell_texts, joined, table_text}
use Rattle.text_fields.specs.Rows.{rows, cleaned}
use Rattle.plan_num.specs.Number.{spelling_of, value_of, value_at, fixed_of, whole_of}
use Rattle.plan_num.specs.Print.{digits_at}
use Rattle.event_tables.proofs.Common.{disposed_time_header}
use Rattle.delay_management.specs.declared.fault.ReasonFault.{ReasonFault}
use Rattle.delay_management.specs.declared.fault.ReasonFault.TheVariants as fault
use Rattle.delay_management.specs.DispositionStage.{reasons_header, events_in, activities_in, schedule_in}
use Rattle.delay_management.specs.DispositionStage.{event_delays_in, activity_delays_in, problem_in, kept_in}
use Rattle.delay_management.specs.DispositionStage.{disposed_of, disposition_stage, disposition_faults}
use Rattle.delay_management.specs.Judged.{first_broken_rule}
use Rattle.propagation.specs.LeastTimes.{pushed_often, least_times}
use Rattle.propagation.specs.Reasons.{canonical_reasons}
use Rattle.propagation.proofs.Common.{chosen_changes}
use Rattle.propagation.specs.Waiting.{kept_changes}
use Rattle.delay_management.specs.InputProblems.{delay_of}

-- what computes on the texts of a small dataset
unfoldable on_texts : ⊤
unfolding digits digits_at disposition_stage problem_in events_in activities_in schedule_in event_delays_in
    activity_delays_in disposition_faults disposed_of kept_changes least_times pushed_often canonical_reasons
    delay_of first_broken_rule input_faults row_faults faults table_of cells_from cell_of values errors row_whys
    rows cleaned spelling_of value_of value_at fixed_of whole_of cell_text cell_texts joined table_text
on_texts = tt

-- what is wrong with two texts over a bundle
abbrev fault_over : BundleParts → List ℕ → List ℕ → Option ReasonFault
fault_over bundle times reasons =
    first_broken_rule (problem_in bundle) (kept_in bundle) times reasons

-- ---- two trips with a change from the first to the second, of two vehicles; the first one starts late

abbrev events : List ℕ
events = (codes "1; 1; departure; 0; 1\n2; 2; arrival; 10; 2\n3; 3; departure; 13; 2\n"
    ++ codes "4; 4; arrival; 20; 3\n")

abbrev activities : List ℕ
activities = codes "1; 1; drive; 1; 2; 8; 10\n2; 2; drive; 3; 4; 7; 9\n3; 3; change; 2; 3; 2; 62\n"

abbrev schedule : List ℕ
schedule = (codes "1; 1; 1; TRIP; 1; 1; 1; 0; 2; 2; 2; 10; 1\n"
    ++ codes "2; 2; 1; TRIP; 3; 3; 2; 13; 4; 4; 3; 20; 2\n")

abbrev bundle_of : ℤ → List (List ℕ) → BundleParts
bundle_of wait inputs = record {
  stage = stage.Disposition;
  settings =
      record { key = key.VsTurnOverTime; value = pos 5 } ∷ record { key = key.DmWait; value = wait } ∷ [];
  inputs = inputs;
}

abbrev bundle : ℤ → BundleParts
bundle wait = bundle_of wait (events ∷ activities ∷ schedule ∷ codes "1; 5\n" ∷ [] ∷ [])

-- what is made, by the rows of its two tables and its line
abbrev made : List ℕ → List ℕ → List ℕ → Made
made times reasons report = record {
  files = record { file = file.Disposed; text = disposed_time_header ++ 10 ∷ times }
      ∷ record { file = file.Reasons; text = reasons_header ++ 10 ∷ reasons } ∷ [];
  report = report;
}

abbrev waited : Made
waited = made (codes "1; 5\n2; 13\n3; 15\n4; 22\n")
    (codes "1; source; 0\n2; activity; 1\n3; activity; 3\n4; activity; 2\n")
    (codes "disposition: delay 5, 0 missed, optimal")

abbrev gone : Made
gone = made (codes "1; 5\n2; 13\n3; 13\n4; 20\n")
    (codes "1; source; 0\n2; activity; 1\n3; source; 0\n4; source; 0\n")
    (codes "disposition: delay 3, 1 missed, optimal")

-- how long trains wait
by_waiting_time :
    -- waits two
    (disposition_stage (bundle (pos 2)) ≡ Ok waited)
    -- waits one
    × (disposition_stage (bundle (pos 1)) ≡ Ok gone)
    -- waits for all
    × (disposition_stage (bundle (negsuc 0)) ≡ Ok waited)
    -- waits for none
    × (disposition_stage (bundle (negsuc 1)) ≡ Ok gone)
unfolding on_texts
by_waiting_time = (refl, refl, refl, refl)

-- ---- times and reasons from any hand

abbrev times : List ℕ
times = codes "1; 5\n2; 13\n3; 15\n4; 22\n"

abbrev reasons : List ℕ
reasons = codes "1; source; 9\n2; activity; 1\n3; activity; 3\n4; activity; 2\n"

judged :
    -- the third cell of a source is not looked at
    (fault_over (bundle (pos 2)) times reasons ≡ None)
    × (fault_over (bundle (pos 2)) (codes "1; 5\n2; 13\n3; 15\n4; 23\n") reasons ≡ Some (fault.Reason 3))
    -- an event is early, and another is late
    × (fault_over (bundle (pos 2)) (codes "1; 5\n2; 13\n3; 14\n4; 22\n") reasons ≡ Some (fault.Early 2))
    -- early as planned
    × (fault_over (bundle (pos 2)) (codes "1; 4\n2; 13\n3; 15\n4; 22\n") reasons ≡ Some
    (fault.Early 0))
    -- no table
    × (fault_over (bundle (pos 2)) (codes "1; 5\n2; x\n") reasons ≡ Some fault.TimesRow)
    -- few times
    × (fault_over (bundle (pos 2)) (codes "1; 5\n2; 13\n3; 15\n") reasons ≡ Some fault.Events)
    -- swapped times
    × (fault_over (bundle (pos 2)) (codes "2; 13\n1; 5\n3; 15\n4; 22\n") reasons ≡ Some fault.Events)
    -- no reasons
    × (fault_over (bundle (pos 2)) times [] ≡ Some fault.ReasonsRow)
    -- other activity
    × (fault_over (bundle (pos 2)) times
    (codes "1; source; 0\n2; activity; 1\n3; activity; 2\n4; activity; 2\n") ≡ Some (fault.Reason 2))
    -- a change that is not kept is no reason
    × (fault_over (bundle (pos 1)) (codes "1; 5\n2; 13\n3; 15\n4; 22\n") reasons ≡ Some (fault.Reason 2))
unfolding on_texts
judged = (refl, refl, refl, refl, refl, refl, refl, refl, refl, refl)

-- ---- the least times of a set of changes

times_of_the_change :
    -- with the change
    (let problem =
    problem_in (bundle (pos 1)) in least_times problem (chosen_changes problem (true ∷ [])) ≡ 5 ∷ 13
    ∷ 15 ∷ 22 ∷ [])
    -- without the change
    × (let problem =
    problem_in (bundle (pos 2)) in least_times problem (chosen_changes problem (false ∷ [])) ≡ 5 ∷ 13
    ∷ 13 ∷ 20 ∷ [])
unfolding on_texts
times_of_the_change = (refl, refl)

-- ---- one vehicle, whose empty ride between the two trips takes one minute and its turnover five; the
-- activity of a change is late too

abbrev one_vehicle : List ℕ
one_vehicle = (codes "1; 1; 1; TRIP; 1; 1; 1; 0; 2; 2; 2; 10; 1\n"
    ++ codes "1; 1; 2; EMPTY; 2; 2; 2; 10; 3; 3; 2; 11; 0\n"
    ++ codes "1; 1; 3; TRIP; 3; 3; 2; 13; 4; 4; 3; 20; 2\n")

turned_and_late :
    (disposition_stage (bundle_of (negsuc 1)
    (events ∷ activities ∷ one_vehicle ∷ codes "1; 5\n" ∷ [] ∷ [])) ≡ Ok (made
    (codes "1; 5\n2; 13\n3; 19\n4; 26\n") (codes "1; source; 0\n2; activity; 1\n3; turn; 0\n4; activity; 2\n")
    (codes "disposition: delay 9, 0 missed, optimal")))
    -- late change
    × (disposition_stage
    (bundle_of (negsuc 0) (events ∷ activities ∷ schedule ∷ codes "1; 5\n3; 3\n" ∷ codes "3; 1\n1; 2\n"
    ∷ [])) ≡ Ok (made (codes "1; 5\n2; 15\n3; 18\n4; 25\n")
    (codes "1; source; 0\n2; activity; 1\n3; activity; 3\n4; activity; 2\n")
    (codes "disposition: delay 10, 0 missed, optimal")))
unfolding on_texts
turned_and_late = (refl, refl)

-- ---- what is refused

faults_of_inputs :
    (disposition_faults (bundle_of (pos 2) (events ∷ activities ∷ one_vehicle ∷ [] ∷ [] ∷ [])) ≡ [])
    -- event gap
    × (disposition_faults (bundle_of (pos 2)
    (codes "1; 1; departure; 0; 1\n3; 2; arrival; 10; 2\n" ∷ [] ∷ [] ∷ [] ∷ []
    ∷ [])) ≡ refusal.BadRow file.EventsX 2 why.OrderGap ∷ [])
    × (disposition_faults (bundle_of (pos 2)
    (events ∷ codes "1; 1; sync; 1; 2; 8; 10\n" ∷ schedule ∷ [] ∷ []
    ∷ [])) ≡ refusal.BadRow file.ActivitiesX 1 why.StraySync ∷ [])
    × (disposition_faults (bundle_of (pos 2)
    (events ∷ codes "1; 1; drive; 1; 2; 8; 7\n" ∷ schedule ∷ [] ∷ []
    ∷ [])) ≡ refusal.BadRow file.ActivitiesX 1 why.BoundsCrossed ∷ [])
    × (disposition_faults (bundle_of (pos 2)
    (events ∷ codes "1; 1; drive; 1; 2; 8; 10\n2; 1; wait; 3; 2; 0; 0\n3; 1; wait; 2; 2; 0; 0\n" ∷ schedule
    ∷ [] ∷ []
    ∷ [])) ≡ refusal.BadRow file.ActivitiesX 2 why.Backward ∷ refusal.BadRow file.ActivitiesX 3 why.Backward
    ∷ [])
    -- the first of these is what is refused
    × (disposition_faults (bundle_of (pos 2)
    (events ∷ codes "1; 1; drive; 1; 5; 8; 10\n" ∷ schedule ∷ [] ∷ []
    ∷ [])) ≡ refusal.BadRow file.ActivitiesX 1 why.UnknownEvent
    ∷ refusal.BadRow file.ActivitiesX 1 why.Backward ∷ [])
    -- at one time arrivals stand before departures, and then lesser ids before greater ones
    × (disposition_faults
    (bundle_of (pos 2) (codes "1; 1; departure; 10; 2\n2; 2; arrival; 10; 2\n3; 3; departure; 10; 2\n"
    ∷ codes "1; 1; change; 2; 1; 0; 0\n2; 1; wait; 1; 3; 0; 0\n3; 1; wait; 3; 1; 0; 0\n" ∷ [] ∷ [] ∷ []
    ∷ [])) ≡ refusal.BadRow file.ActivitiesX 3 why.Backward ∷ [])
    -- no event of a trip
    × (disposition_faults
    (bundle_of (pos 2) (events ∷ activities ∷ codes "1; 1; 1; TRIP; 1; 1; 1; 9; 5; 2; 2; 3; 1\n" ∷ [] ∷ []
    ∷ [])) ≡ refusal.BadRow file.Schedule 1 why.UnknownEvent ∷ [])
    -- trips are not backward
    × (disposition_faults
    (bundle_of (pos 2) (events ∷ activities ∷ codes "1; 1; 1; TRIP; 2; 1; 1; 9; 1; 2; 2; 3; 1\n" ∷ [] ∷ []
    ∷ [])) ≡ [])
    -- ends before start
    × (disposition_faults
    (bundle_of (pos 2) (events ∷ activities ∷ codes "1; 1; 2; EMPTY; 2; 2; 2; 10; 3; 3; 2; 9; 0\n" ∷ [] ∷ []
    ∷ [])) ≡ refusal.BadRow file.Schedule 1 why.Backward ∷ [])
    -- no room
    × (disposition_faults (bundle_of (pos 2)
    (events ∷ activities ∷ codes "1; 1; 2; EMPTY; 2; 2; 2; 10; 3; 3; 2; 14; 0\n" ∷ [] ∷ []
    ∷ [])) ≡ refusal.BadRow file.Schedule 1 why.Backward ∷ [])
    -- some room
    × (disposition_faults (bundle_of (pos 2)
    (events ∷ activities ∷ codes "1; 1; 2; EMPTY; 2; 2; 2; 10; 3; 3; 2; 13; 0\n" ∷ [] ∷ [] ∷ [])) ≡ [])
    -- not before
    × (disposition_faults
    (bundle_of (pos 2) (codes "1; 1; departure; 10; 2\n2; 2; arrival; 10; 2\n" ∷ []
    ∷ codes "1; 1; 2; EMPTY; 1; 2; 2; 10; 2; 3; 2; 10; 0\n" ∷ [] ∷ []
    ∷ [])) ≡ refusal.BadRow file.Schedule 1 why.Backward ∷ [])
    × (disposition_faults (bundle_of (pos 2)
    (events ∷ activities ∷ schedule ∷ codes "1; 5\n5; 5\n1; 0\n" ∷ codes "4; 1\n"
    ∷ [])) ≡ refusal.BadRow file.EventDelays 2 why.UnknownEvent
    ∷ refusal.BadRow file.EventDelays 3 why.RepeatedId
    ∷ refusal.BadRow file.ActivityDelays 1 why.UnknownActivity ∷ [])
    -- too late
    × (disposition_faults (bundle_of (pos 2)
    (events ∷ activities ∷ schedule ∷ codes "1; 1000001\n" ∷ []
    ∷ [])) ≡ refusal.BadRow file.EventDelays 1 (why.OutOfRange 2) ∷ [])
unfolding on_texts
faults_of_inputs = (refl, refl, refl, refl, refl, refl, refl, refl, refl, refl, refl, refl, refl, refl, refl)

-- ---- a day of four vehicles and eight trips, of two lines with changes between them

abbrev day_events : List ℕ
day_events = (codes "# event-id; periodic-id; type; time; stop-id\n1; 1; departure; 0; 1\n"
    ++ codes "2; 2; arrival; 4; 2\n3; 3; departure; 5; 2\n4; 4; arrival; 11; 3\n"
    ++ codes "5; 1; departure; 20; 1\n6; 2; arrival; 24; 2\n7; 3; departure; 25; 2\n"
    ++ codes "8; 4; arrival; 31; 3\n9; 5; departure; 0; 3\n10; 6; arrival; 6; 2\n"
    ++ codes "11; 7; departure; 7; 2\n12; 8; arrival; 11; 1\n13; 5; departure; 20; 3\n"
    ++ codes "14; 6; arrival; 26; 2\n15; 7; departure; 27; 2\n16; 8; arrival; 31; 1\n"
    ++ codes "17; 9; departure; 0; 1\n18; 10; arrival; 4; 2\n19; 9; departure; 20; 1\n"
    ++ codes "20; 10; arrival; 24; 2\n21; 11; departure; 0; 2\n22; 12; arrival; 4; 1\n"
    ++ codes "23; 11; departure; 20; 2\n24; 12; arrival; 24; 1\n")

abbrev day_activities : List ℕ
day_activities = (codes "# activity-id; periodic-id; type; from-event; to-event; lower-bound; upper-bound\n"
    ++ codes "1; 1; drive; 1; 2; 4; 5\n2; 2; wait; 2; 3; 1; 3\n3; 3; drive; 3; 4; 6; 6\n"
    ++ codes "4; 1; drive; 5; 6; 4; 5\n5; 2; wait; 6; 7; 1; 3\n6; 3; drive; 7; 8; 6; 6\n"
    ++ codes "7; 4; drive; 9; 10; 6; 6\n8; 5; wait; 10; 11; 1; 3\n9; 6; drive; 11; 12; 4; 5\n"
    ++ codes "10; 4; drive; 13; 14; 6; 6\n11; 5; wait; 14; 15; 1; 3\n12; 6; drive; 15; 16; 4; 5\n"
    ++ codes "13; 7; drive; 17; 18; 4; 5\n14; 7; drive; 19; 20; 4; 5\n15; 8; drive; 21; 22; 4; 5\n"
    ++ codes "16; 8; drive; 23; 24; 4; 5\n17; 9; change; 2; 23; 2; 62\n"
    ++ codes "18; 10; change; 10; 23; 2; 62\n19; 11; change; 12; 19; 2; 62\n"
    ++ codes "20; 12; change; 18; 7; 2; 62\n21; 13; change; 18; 11; 2; 62\n"
    ++ codes "22; 13; change; 20; 15; 2; 62\n23; 14; change; 22; 5; 2; 62\n")

abbrev day_schedule : List ℕ
day_schedule =
    (codes "# circulation; vehicle; number; type; start-id; periodic-start-id; start-stop; start-time; "
    ++ codes "end-id; periodic-end-id; end-stop; end-time; line\n"
    ++ codes "1; 1; 1; TRIP; 1; 1; 1; 0; 4; 4; 3; 11; 1\n"
    ++ codes "1; 1; 2; EMPTY; 4; 4; 3; 11; 13; 5; 3; 11; 0\n"
    ++ codes "1; 1; 3; TRIP; 13; 5; 3; 20; 16; 8; 1; 31; 1\n"
    ++ codes "2; 2; 1; TRIP; 9; 5; 3; 0; 12; 8; 1; 11; 1\n"
    ++ codes "2; 2; 2; EMPTY; 12; 8; 1; 11; 5; 1; 1; 11; 0\n"
    ++ codes "2; 2; 3; TRIP; 5; 1; 1; 20; 8; 4; 3; 31; 1\n"
    ++ codes "3; 3; 1; TRIP; 17; 9; 1; 0; 18; 10; 2; 4; 2\n"
    ++ codes "3; 3; 2; EMPTY; 18; 10; 2; 4; 23; 11; 2; 4; 0\n"
    ++ codes "3; 3; 3; TRIP; 23; 11; 2; 20; 24; 12; 1; 24; 2\n"
    ++ codes "4; 4; 1; TRIP; 21; 11; 2; 0; 22; 12; 1; 4; 2\n"
    ++ codes "4; 4; 2; EMPTY; 22; 12; 1; 4; 19; 9; 1; 4; 0\n"
    ++ codes "4; 4; 3; TRIP; 19; 9; 1; 20; 20; 10; 2; 24; 2\n")

abbrev day : ℤ → List ℕ → List ℕ → BundleParts
day wait event_delays activity_delays = record {
  stage = stage.Disposition;
  settings =
      record { key = key.VsTurnOverTime; value = pos 2 } ∷ record { key = key.DmWait; value = wait } ∷ [];
  inputs = day_events ∷ day_activities ∷ day_schedule ∷ event_delays ∷ activity_delays ∷ [];
}

abbrev day_made : List ℕ → List ℕ → List ℕ → Made
day_made times reasons report = record {
  files = record { file = file.Disposed; text = times } ∷ record { file = file.Reasons; text = reasons } ∷ [];
  report = report;
}

a_whole_day :
    -- without delays every event is as planned
    (disposition_stage (day (pos 3) (codes "") (codes "")) ≡ Ok
    (day_made ((codes "# event-id; time\n1; 0\n2; 4\n3; 5\n4; 11\n5; 20\n6; 24\n7; 25\n8; 31\n9; 0\n10; 6\n"
    ++ codes "11; 7\n12; 11\n13; 20\n14; 26\n15; 27\n16; 31\n17; 0\n18; 4\n19; 20\n20; 24\n21; 0\n"
    ++ codes "22; 4\n23; 20\n24; 24\n"))
    ((codes "# event-id; reason; activity-id\n1; source; 0\n2; source; 0\n3; source; 0\n"
    ++ codes "4; source; 0\n5; source; 0\n6; source; 0\n7; source; 0\n8; source; 0\n9; source; 0\n"
    ++ codes "10; source; 0\n11; source; 0\n12; source; 0\n13; source; 0\n14; source; 0\n"
    ++ codes "15; source; 0\n16; source; 0\n17; source; 0\n18; source; 0\n19; source; 0\n"
    ++ codes "20; source; 0\n21; source; 0\n22; source; 0\n23; source; 0\n24; source; 0\n"))
    (codes "disposition: delay 0, 0 missed, optimal")))
    -- delays that go on by drives, waits, turns and changes
    × (disposition_stage (day (pos 3) (codes "1; 10\n18; 1\n") (codes "4; 2\n")) ≡ Ok
    (day_made ((codes "# event-id; time\n1; 10\n2; 14\n3; 15\n4; 21\n5; 20\n6; 26\n7; 27\n8; 33\n9; 0\n"
    ++ codes "10; 6\n11; 7\n12; 11\n13; 23\n14; 29\n15; 30\n16; 34\n17; 0\n18; 5\n19; 20\n20; 24\n"
    ++ codes "21; 0\n22; 4\n23; 20\n24; 24\n"))
    ((codes "# event-id; reason; activity-id\n1; source; 0\n2; activity; 1\n3; activity; 2\n"
    ++ codes "4; activity; 3\n5; source; 0\n6; activity; 4\n7; activity; 5\n8; activity; 6\n"
    ++ codes "9; source; 0\n10; source; 0\n11; source; 0\n12; source; 0\n13; turn; 0\n"
    ++ codes "14; activity; 10\n15; activity; 11\n16; activity; 12\n17; source; 0\n18; source; 0\n"
    ++ codes "19; source; 0\n20; source; 0\n21; source; 0\n22; source; 0\n23; source; 0\n"
    ++ codes "24; source; 0\n"))
    (codes "disposition: delay 31, 0 missed, optimal")))
    -- the same where every change waits, and one of them takes longer
    × (disposition_stage (day (negsuc 0) (codes "1; 10\n18; 1\n") (codes "4; 2\n22; 9\n")) ≡ Ok
    (day_made ((codes "# event-id; time\n1; 10\n2; 14\n3; 15\n4; 21\n5; 20\n6; 26\n7; 27\n8; 33\n9; 0\n"
    ++ codes "10; 6\n11; 7\n12; 11\n13; 23\n14; 29\n15; 35\n16; 39\n17; 0\n18; 5\n19; 20\n20; 24\n"
    ++ codes "21; 0\n22; 4\n23; 20\n24; 24\n"))
    ((codes "# event-id; reason; activity-id\n1; source; 0\n2; activity; 1\n3; activity; 2\n"
    ++ codes "4; activity; 3\n5; source; 0\n6; activity; 4\n7; activity; 5\n8; activity; 6\n"
    ++ codes "9; source; 0\n10; source; 0\n11; source; 0\n12; source; 0\n13; turn; 0\n"
    ++ codes "14; activity; 10\n15; activity; 22\n16; activity; 12\n17; source; 0\n18; source; 0\n"
    ++ codes "19; source; 0\n20; source; 0\n21; source; 0\n22; source; 0\n23; source; 0\n"
    ++ codes "24; source; 0\n"))
    (codes "disposition: delay 36, 0 missed, optimal")))
unfolding on_texts
a_whole_day = (refl, refl, refl)
