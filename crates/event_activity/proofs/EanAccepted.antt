-- The files that are made are accepted by the rules of their kinds.
use Rattle.plan_num.proofs.Common.{◌≡◌, ℕ, ◌≤◌, All, List, [], ◌∷◌, length, refl, subst, sym, arith}
use Rattle.plan_num.proofs.Common.{range_with_len, le-ltb, recursion_from_All}
use Rattle.tables.proofs.Common.{events_p_columns, activities_p_columns, records, broken_whys}
use Rattle.tables.proofs.Common.{input_faults, ReadsBack, KeepRules, accepted, under_limit, rows_by}
use Rattle.event_tables.specs.declared.periodic_activity.PeriodicActivity.{PeriodicActivity}
use Rattle.event_tables.specs.declared.periodic_event.PeriodicEvent.{PeriodicEvent}
use Rattle.event_tables.proofs.Common.{periodic_event, periodic_activity, periodic_event_cells}
use Rattle.event_tables.proofs.Common.{periodic_activity_cells, periodic_event_input}
use Rattle.event_tables.proofs.Common.{periodic_activity_input, IsPeriodicActivity, known_ends}
use Rattle.event_tables.proofs.Common.{bounds_in_order, AreNumbered, periodic_event_same}
use Rattle.event_tables.proofs.Common.{periodic_activity_same, is_known, places_keep, records_back}
use Rattle.tables.specs.declared.counted.Counted.TheVariants as counted

-- an activity between events with bounds in order keeps the rules of its row
activity_keeps : (count : ℕ) (before : List PeriodicActivity) (row : PeriodicActivity)
    → IsPeriodicActivity count row
    → broken_whys (known_ends (range_with_len 1 count) (λ (at : PeriodicActivity). at.from)
    (λ at. at.to) ∷ bounds_in_order (λ at. at.lower) (λ at. at.upper) ∷ []) before row ≡ []
activity_keeps count before row is = grind (arith, is_known, le-ltb)

-- a text of events, which are numbered and not too many
pub events_accepted : (events : List PeriodicEvent) (text : List ℕ)
    → AreNumbered (λ event. event.id) events → length events ≤ 4000
    → ReadsBack events_p_columns (rows_by periodic_event_cells events) text
    → input_faults periodic_event_input text ≡ []
events_accepted events text are few back =
    let rows = rows_by periodic_event_cells events in
    let same = records_back periodic_event periodic_event_cells periodic_event_same events in
    accepted periodic_event_input rows text back
    (under_limit counted.PeriodicEvents 4000 (records periodic_event_input rows)
    (subst (λ some. length some ≤ 4000) (sym same) few))
    (subst (KeepRules periodic_event_input.row_rules []) (sym same)
    (places_keep (λ event. event.id) [] (λ event. Unit {0}) (λ before row good. refl) [] events are
    (recursion_from_All (λ event. Unit {0}) events (λ k d h. tt))))
    (λ at is. refl)

-- a text of activities between so many events, which are numbered and not too many
pub activities_accepted : (count : ℕ) (activities : List PeriodicActivity) (text : List ℕ)
    → AreNumbered (λ row. row.id) activities → length activities ≤ 200000
    → All (IsPeriodicActivity count) activities
    → ReadsBack activities_p_columns (rows_by periodic_activity_cells activities) text
    → input_faults (periodic_activity_input (range_with_len 1 count)) text ≡ []
activities_accepted count activities text are few sound back =
    let input = periodic_activity_input (range_with_len 1 count) in
    let rows = rows_by periodic_activity_cells activities in
    let same = records_back periodic_activity periodic_activity_cells periodic_activity_same activities in
    accepted input rows text back
    (under_limit counted.PeriodicActivities 200000 (records input rows)
    (subst (λ some. length some ≤ 200000) (sym same) few))
    (subst (KeepRules input.row_rules []) (sym same)
    (places_keep (λ (row : PeriodicActivity). row.id)
    (known_ends (range_with_len 1 count) (λ at. at.from) (λ at. at.to)
    ∷ bounds_in_order (λ at. at.lower) (λ at. at.upper) ∷ []) (IsPeriodicActivity count)
    (activity_keeps count) [] activities are
    (recursion_from_All (IsPeriodicActivity count) activities sound)))
    (λ at is. refl)
