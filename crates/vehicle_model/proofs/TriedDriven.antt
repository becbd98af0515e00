-- Schedules told by vehicles, on small ones.
use Rattle.plan_num.proofs.Common.{◌≡◌, ℕ, refl, List, [], ◌∷◌, ◌++◌, codes, map, nat_eq, length}
use Rattle.plan_num.proofs.Common.{filter, slice_get, Some, concat, range_with_len}
use Rattle.event_tables.proofs.Common.{schedule_row}
use Rattle.tables.proofs.Common.{schedule_columns, records_by}
use Rattle.tables.specs.Reading.{table_of, cells_from, cell_of, values}
use Rattle.text_fields.specs.Rows.{rows, cleaned}
use Rattle.plan_num.specs.Number.{spelling_of, value_of, value_at, fixed_of, whole_of}
use Rattle.ptn_network.specs.Networks.{stops_of, network_of}
use Rattle.walks.specs.RisingIds.{by_id}
use Rattle.walks.specs.Walks.{walks_within, least_of, least_sum}
use Rattle.vehicle_model.specs.DrivenSchedules.{as_told}
use Rattle.vehicle_model.specs.Schedules.{rows_behind, rows_from}
use Rattle.vehicle_model.specs.Trips.{TripsParts, trips_of}
use Rattle.vehicle_model.proofs.Tried.{trips, trip, two, eight, schedule}

-- four vehicles that drive two trips each
abbrev four : List (List ℕ)
four = (0 ∷ 3 ∷ []) ∷ (2 ∷ 1 ∷ []) ∷ (4 ∷ 7 ∷ []) ∷ (6 ∷ 5 ∷ []) ∷ []

rows_of_schedules :
    (map (as_told eight) (records_by schedule_row (table_of schedule_columns schedule)) ≡ rows_from eight 1 four)
    × (map (λ i. length (filter (nat_eq i) (concat four))) (range_with_len 0 8)
    ≡ 1 ∷ 1 ∷ 1 ∷ 1 ∷ 1 ∷ 1 ∷ 1 ∷ 1 ∷ [])
    -- vehicles in any order
    × (map (as_told (two 1000000)) (records_by schedule_row (table_of schedule_columns
    (codes "1; 1; 1; TRIP; 4; 4; 1; 30; 5; 5; 2; 40; 1\n" ++ codes "2; 2; 1; TRIP; 2; 2; 1; 0; 3; 3; 2; 10; 1\n")))
    ≡ rows_from (two 1000000) 1 ((1 ∷ []) ∷ (0 ∷ []) ∷ []))
unfolding rows_behind rows_from least_sum walks_within least_of trips_of network_of stops_of by_id table_of
    cells_from cell_of values rows cleaned spelling_of value_of value_at fixed_of whole_of
rows_of_schedules = (refl, refl, refl)

-- where no walk joins two stops, the minute in which the ride between them ends is free
nowhere : TripsParts
nowhere = trips (trip 1 1 0 4 10 ∷ trip 2 1 30 2 40 ∷ []) 2 0

walks_looked_at :
    (map (as_told nowhere) (records_by schedule_row (table_of schedule_columns
    (codes "1; 1; 1; TRIP; 2; 2; 1; 0; 3; 3; 4; 10; 1\n1; 1; 2; EMPTY; 3; 3; 4; 10; 4; 4; 1; 99; 0\n"
    ++ codes "1; 1; 3; TRIP; 4; 4; 1; 30; 5; 5; 2; 40; 1\n")))
    ≡ rows_from nowhere 1 ((0 ∷ 1 ∷ []) ∷ []))
    -- where a walk joins them, it is told as it stands: here a minute too late
    × (slice_get (map (λ row. row.run.end.time) (map (as_told (two 1000000)) (records_by schedule_row
    (table_of schedule_columns (codes "1; 1; 1; TRIP; 2; 2; 1; 0; 3; 3; 2; 10; 1\n"
    ++ codes "1; 1; 2; EMPTY; 3; 3; 2; 10; 4; 4; 1; 15; 0\n"
    ++ codes "1; 1; 3; TRIP; 4; 4; 1; 30; 5; 5; 2; 40; 1\n"))))) 1 ≡ Some 15)
unfolding nowhere rows_behind rows_from least_sum walks_within least_of table_of cells_from cell_of values
    rows cleaned spelling_of value_of value_at fixed_of whole_of
walks_looked_at = (refl, refl)

pub due : slice_get (map (λ row. row.run.end.time) (rows_from (two 1000000) 1 ((0 ∷ 1 ∷ []) ∷ []))) 1 ≡ Some 14
unfolding rows_behind rows_from least_sum walks_within least_of
due = refl
