-- The files of a day are accepted by the rules of their kinds.
use Rattle.plan_num.proofs.Common.{◌≡◌, ℕ, ℤ, ◌<◌, ◌≤◌, arith, false, All, List, [], ◌∷◌, length}
use Rattle.plan_num.proofs.Common.{map, Option, None, refl, ap, subst, sym, ◌∙◌, AllByRecursion}
use Rattle.plan_num.proofs.Common.{list_any, IsStrictlySortedBy, int_cmp, int_eq, le-ltb, lt-leb}
use Rattle.tables.specs.declared.counted.Counted.TheVariants as counted
use Rattle.tables.proofs.Common.{activities_x_columns, events_x_columns, trips_columns, RowRule}
use Rattle.tables.proofs.Common.{broken_whys, input_faults, records, InColumns, ReadsBack}
use Rattle.tables.proofs.Common.{KeepRules, accepted, all_keep, plain_header, under_limit, ReadsAs}
use Rattle.tables.proofs.Common.{file_text, rows_by, columns_written}
use Rattle.event_tables.specs.declared.expanded_activity.ExpandedActivity.{ExpandedActivity}
use Rattle.event_tables.specs.declared.expanded_event.ExpandedEvent.{ExpandedEvent}
use Rattle.event_tables.specs.declared.trip.Trip.{Trip}
use Rattle.event_tables.proofs.Common.{expanded_activity, expanded_activity_cells, expanded_event}
use Rattle.event_tables.proofs.Common.{expanded_event_cells, trip, trip_cells, IsExpandedActivity}
use Rattle.event_tables.proofs.Common.{expanded_activity_input, expanded_event_ids}
use Rattle.event_tables.proofs.Common.{expanded_event_input, forward, no_sync}
use Rattle.event_tables.proofs.Common.{expanded_activity_header, expanded_event_header, trip_header}
use Rattle.event_tables.proofs.Common.{AreNumbered, IsOneOf, bounds_in_order, is_none_of}
use Rattle.event_tables.proofs.Common.{known_ends, lacks_stop, trip_input, trip_rules}
use Rattle.event_tables.proofs.Common.{expanded_activity_same, expanded_event_same, trip_same}
use Rattle.event_tables.proofs.Common.{is_known, places_keep, file_back, records_back, text_as}
use Rattle.roll_out.proofs.GoodTrips.{start_id}

any_good : {X : Type 0} (xs : List X) → AllByRecursion (λ x. Unit {0}) xs
any_good [] = tt
any_good (x ∷ xs) = (tt, any_good xs)

-- a text of events that are numbered and not too many
pub events_accepted : (events : List ExpandedEvent) (text : List ℕ)
    → AreNumbered (λ event. event.id) events
    → length events ≤ 100000 → ReadsBack events_x_columns (rows_by expanded_event_cells events) text
    → input_faults expanded_event_input text ≡ []
events_accepted events text are few back =
    let rows = rows_by expanded_event_cells events in
    let same = records_back expanded_event expanded_event_cells expanded_event_same events in
    accepted expanded_event_input rows text back
    (under_limit counted.ExpandedEvents 100000 (records expanded_event_input rows)
    (subst (λ some. length some ≤ 100000) (sym same) few))
    (subst (KeepRules expanded_event_input.row_rules []) (sym same)
    (places_keep (λ (event : ExpandedEvent). event.id) [] (λ event. Unit {0})
    (λ before row good. refl) [] events are
    (any_good events)))
    (λ at is. refl)

module _ (events : List ExpandedEvent) (are : AreNumbered (λ event. event.id) events) where
  abbrev rest : List (RowRule ExpandedActivity)
  rest = known_ends (expanded_event_ids events) (λ (at : ExpandedActivity). at.from) (λ at. at.to)
      ∷ bounds_in_order (λ at. at.lower) (λ at. at.upper) ∷ no_sync ∷ forward events ∷ []

  there : (id : ℕ) → IsOneOf (length events) id → is_none_of (expanded_event_ids events) id ≡ false
  there id is = ap (λ ids. is_none_of ids id) are ∙ is_known (length events) id is

  activity_keeps : (before : List ExpandedActivity) (row : ExpandedActivity)
      → IsExpandedActivity events row
      → broken_whys rest before row ≡ []
  activity_keeps before row is = grind (arith, there, le-ltb)

  -- a text of activities between events
  pub activities_accepted : (activities : List ExpandedActivity) (text : List ℕ)
      → AreNumbered (λ row. row.id) activities → length activities ≤ 500000
      → AllByRecursion (IsExpandedActivity events) activities
      → ReadsBack activities_x_columns (rows_by expanded_activity_cells activities) text
      → input_faults (expanded_activity_input events) text ≡ []
  activities_accepted activities text placed few good back =
      let rows = rows_by expanded_activity_cells activities in
      let same = records_back expanded_activity expanded_activity_cells expanded_activity_same activities in
      accepted (expanded_activity_input events) rows text back
      (under_limit counted.ExpandedActivities 500000 (records (expanded_activity_input events) rows)
      (subst (λ some. length some ≤ 500000) (sym same) few))
      (subst (KeepRules (expanded_activity_input events).row_rules []) (sym same)
      (places_keep (λ (row : ExpandedActivity). row.id) rest (IsExpandedActivity events)
      activity_keeps [] activities
      placed good))
      (λ at is. refl)

module _ (stops : Option (List ℤ)) where
  abbrev pub TripGood : Trip → Type 0
  TripGood trip = (lacks_stop stops trip ≡ false) × (trip.start.time < trip.end.time)

  trip_keeps : (before : List Trip) (row : Trip)
      → list_any (λ other. int_eq (start_id row) (start_id other)) before ≡ false
      → TripGood row → broken_whys (trip_rules stops) before row ≡ []
  trip_keeps before row fresh good = rw (fresh, good.0, lt-leb row.end.time row.start.time good.1)
      refl

  -- a text of trips
  pub trips_accepted : (trips : List Trip) (text : List ℕ) → length trips ≤ 2000
      → IsStrictlySortedBy int_cmp (map start_id trips) → AllByRecursion TripGood trips
      → ReadsBack trips_columns (rows_by trip_cells trips) text
      → input_faults (trip_input stops) text ≡ []
  trips_accepted trips text few rise good back =
      let rows = rows_by trip_cells trips in
      let same = records_back trip trip_cells trip_same trips in grind (
        arith,
        accepted,
        under_limit,
        KeepRules,
        all_keep,
        start_id,
        trip_keeps,
      )

-- ---- texts that are read again

module _ (rows : List ExpandedEvent) (fit : All
    (λ row. InColumns events_x_columns (expanded_event_cells row)) rows) where
  pub events_back : ReadsBack events_x_columns (rows_by expanded_event_cells rows)
      (file_text expanded_event_header events_x_columns expanded_event_cells rows)
  events_back = file_back events_x_columns expanded_event expanded_event_cells rows
      expanded_event_header (omega arith) (columns_written events_x_columns refl)
      (refl, plain_header expanded_event_header refl) fit

  pub events_again : ReadsAs events_x_columns expanded_event_input.read rows
      (file_text expanded_event_header events_x_columns expanded_event_cells rows)
  events_again = text_as events_x_columns expanded_event expanded_event_cells rows
      expanded_event_same _ events_back

module _ (rows : List ExpandedActivity)
    (fit : All (λ row. InColumns activities_x_columns (expanded_activity_cells row)) rows) where
  pub activities_back : ReadsBack activities_x_columns (rows_by expanded_activity_cells rows)
      (file_text expanded_activity_header activities_x_columns expanded_activity_cells rows)
  activities_back = file_back activities_x_columns expanded_activity expanded_activity_cells rows
      expanded_activity_header (omega arith) (columns_written activities_x_columns refl)
      (refl, plain_header expanded_activity_header refl) fit

  pub activities_again : ReadsAs activities_x_columns (expanded_activity_input []).read rows
      (file_text expanded_activity_header activities_x_columns expanded_activity_cells rows)
  activities_again = text_as activities_x_columns expanded_activity expanded_activity_cells rows
      expanded_activity_same _ activities_back

module _ (rows : List Trip) (fit : All (λ row. InColumns trips_columns (trip_cells row)) rows) where
  pub trips_back : ReadsBack trips_columns (rows_by trip_cells rows)
      (file_text trip_header trips_columns trip_cells rows)
  trips_back = file_back trips_columns trip trip_cells rows trip_header (omega arith)
      (columns_written trips_columns refl) (refl, plain_header trip_header refl) fit

  pub trips_again : ReadsAs trips_columns (trip_input None).read rows
      (file_text trip_header trips_columns trip_cells rows)
  trips_again = text_as trips_columns trip trip_cells rows trip_same _ trips_back
