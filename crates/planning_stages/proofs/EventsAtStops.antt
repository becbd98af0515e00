-- Periodic events that are made are at stops of their dataset.
use Rattle.plan_num.proofs.Common.{◌≡◌, ℕ, ℤ, zero, suc, pos, negsuc, ◌<◌, ◌≤ℤ◌, Bool, true, false}
use Rattle.plan_num.proofs.Common.{◌||◌, All, Contains, List, [], ◌∷◌, length, map, get_or}
use Rattle.plan_num.proofs.Common.{unsigned_abs, Some, lit<, refl, ap, ◌∙◌, arith, list_any, int_eq}
use Rattle.plan_num.proofs.Common.{int_eq_equiv, ints, All-contains, All-map, All-weaker}
use Rattle.tables.specs.declared.column.ColumnKind.TheVariants as column
use Rattle.tables.proofs.Common.{stop_columns, input_faults, records_of, table_of, TableRow}
use Rattle.tables.proofs.Common.{sound_rows, in_column}
use Rattle.walks.proofs.Common.{all_rising}
use Rattle.ptn_network.specs.Inputs.{stop_input, stop_row}
use Rattle.ptn_network.specs.Networks.{stops_of}
use Rattle.event_tables.specs.declared.periodic_event.PeriodicEvent.{PeriodicEvent}
use Rattle.event_tables.proofs.Common.{is_stop}
use Rattle.roll_out.specs.RightRollout.{AtStops}
use Rattle.plan_num.proofs.Tests.{or_true}

-- the ids of stops count from 1
stop_ids : (stops : List ℕ) → input_faults stop_input stops ≡ []
    → All (λ id. pos 1 ≤ℤ id) (stops_of stops)
unfolding stops_of
stop_ids stops fine =
    let rows = sound_rows stop_input stops fine in
    all_rising (λ id. pos 1 ≤ℤ id) (records_of stop_input stops)
    (All-map (λ id. pos 1 ≤ℤ id) (λ (row : TableRow). stop_row row.cells)
    (table_of stop_columns stops)
    (λ k d h. (in_column stop_columns _ 0 column.Skip (pos 0) (rows k d h).2 (lit< tt)).0))

-- such a number is the same without its sign
same_number : (id : ℤ) → pos 1 ≤ℤ id → pos (unsigned_abs id) ≡ id
same_number (pos n) low = refl
same_number (negsuc n) low = absurd (omega (arith, ints, low))

-- an element that passes
any_at : {X : Type 0} (p : X → Bool) (xs : List X) (i : ℕ) (d : X) → i < length xs
    → p (get_or xs i d) ≡ true → list_any p xs ≡ true
any_at p [] i d h is = absurd (omega (arith, h))
any_at p (x ∷ xs) zero d h is = ap (λ b. b || list_any p xs) is
any_at p (x ∷ xs) (suc i) d h is = grind (arith, or_true, any_at p xs i d (omega (arith, h)) is)

-- each stop is one of all
stops_found : (stops : List ℤ) → All (λ id. pos 1 ≤ℤ id) stops
    → All (λ id. is_stop stops id ≡ true) (map unsigned_abs stops)
stops_found stops low =
    All-map (λ id. is_stop stops id ≡ true) unsigned_abs stops
    (λ i d h. any_at (int_eq (pos (unsigned_abs (get_or stops i d)))) stops i d h
    (ap (λ id. int_eq id (get_or stops i d)) (same_number (get_or stops i d) (low i d h))
    ∙ int_eq_equiv.refl (get_or stops i d)))

-- rows at stops of a network are at stops of its text
pub rows_at_stops : {X : Type 0} (events : List X) (row : X → PeriodicEvent) (stops : List ℕ)
    → input_faults stop_input stops ≡ []
    → All (λ event. Contains (map unsigned_abs (stops_of stops)) (row event).stop) events
    → AtStops (Some (stops_of stops)) (map row events)
rows_at_stops events row stops fine at =
    All-map (λ (event : PeriodicEvent). is_stop (stops_of stops) event.stop ≡ true) row events
    (All-weaker (λ event. Contains (map unsigned_abs (stops_of stops)) (row event).stop)
    (λ event. is_stop (stops_of stops) (row event).stop ≡ true)
    (λ event there. All-contains (λ id. is_stop (stops_of stops) id ≡ true)
    (map unsigned_abs (stops_of stops)) (row event).stop
    (stops_found (stops_of stops) (stop_ids stops fine)) there) events at)
