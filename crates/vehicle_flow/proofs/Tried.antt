-- The definitions on small datasets.
use Rattle.std.proofs.Common.{◌≡◌, ℕ, refl, pos, List, [], ◌∷◌, ◌++◌, codes, Option, Some, None, Ok, Err}
use Rattle.std.specs.Fmt.{digits}
use Rattle.tables.specs.declared.file_id.FileId.TheVariants as file
use Rattle.giv_files.specs.declared.key.Key.TheVariants as key
use Rattle.giv_files.specs.declared.made.Made.{Made}
use Rattle.tables.specs.declared.row_why.RowWhy.TheVariants as why
use Rattle.tables.specs.declared.refusal.Refusal.TheVariants as refusal
use Rattle.giv_files.specs.declared.stage.Stage.TheVariants as stage
use Rattle.tables.specs.Inputs.{input_faults, row_faults}
use Rattle.tables.specs.Reading.{faults, table_of, cells_from, cell_of, errors, values, row_whys}
use Rattle.text_fields.specs.Rows.{rows, cleaned}
use Rattle.giv_files.specs.Settings.{BundleParts}
use Rattle.tables.specs.Writing.{cell_text, cell_texts, joined, table_text}
use Rattle.plan_num.specs.Number.{spelling_of, value_of, value_at, fixed_of, whole_of}
use Rattle.plan_num.specs.Print.{digits_at}
use Rattle.ptn_network.specs.Networks.{stops_of, network_of, network_faults}
use Rattle.walks.specs.RisingIds.{by_id}
use Rattle.walks.specs.Walks.{walks_within, least_of, least_sum}
use Rattle.vehicle_model.specs.Trips.{trips_of, trips_faults}
use Rattle.vehicle_model.specs.Plans.{all_lists, is_apart, chosen_plan}
use Rattle.vehicle_model.specs.Schedules.{tour, rows_behind, rows_from, plan_text}
use Rattle.vehicle_model.specs.ReadSchedules.{form_faults, links_in, plan_faults, plan_of}
use Rattle.event_tables.specs.Headers.{schedule_header}
use Rattle.flow_potentials.specs.PotentialFaults.{potential_faults}
use Rattle.flow_potentials.specs.PotentialTables.{gaps_from, potentials_text, potentials_of}
use Rattle.flow_potentials.specs.PotentialTables.{potential_header, table_faults}
use Rattle.canonical_potentials.specs.Rounds.{canonical, settled}
use Rattle.vehicle_flow.specs.declared.schedule_fault.ScheduleFault.{ScheduleFault}
use Rattle.vehicle_flow.specs.declared.schedule_fault.ScheduleFault.TheVariants as rule
use Rattle.vehicle_flow.specs.ScheduleChecks.{schedule_fault}
use Rattle.vehicle_flow.specs.VehicleStage.{trips_in, vehicles_stage}

-- two edges in a row, with a turnover of 2 minutes, and costs of a vehicle and of a dead minute in
-- millionths
abbrev bundle : ℕ → ℕ → List ℕ → BundleParts
bundle vehicle empty trips = record {
  stage = stage.Vehicles;
  settings = record { key = key.VsTurnOverTime; value = pos 2 }
      ∷ record { key = key.VsVehicleCosts; value = pos vehicle }
      ∷ record { key = key.VsEmptyCosts; value = pos empty }
      ∷ [];
  inputs = codes "1; A; A; 0; 0\n2; B; B; 0; 0\n3; C; C; 0; 0\n"
      ∷ codes "1; 1; 2; 2; 4; 5\n2; 2; 3; 3; 6; 6\n" ∷ trips ∷ [];
}

-- what is made where the rows of the two tables are these
abbrev made : List ℕ → List ℕ → List ℕ → Made
made schedule potentials report = record {
  files = record { file = file.Schedule; text = schedule_header ++ 10 ∷ schedule }
      ∷ record { file = file.Potential; text = potential_header ++ 10 ∷ potentials } ∷ [];
  report = report;
}

days_without_rides :
    -- no trips
    (vehicles_stage (bundle 3 1 []) ≡ Ok (made [] [] (codes "vehicles: 0 vehicles, cost 0, optimal")))
    -- a trip that ends when it starts
    × (vehicles_stage (bundle 3 1 (codes "# trips\n1; 1; 1; 5; 2; 2; 2; 5; 1\n"))
    ≡ Err (refusal.BadRow file.Trips 2 why.Backward))
unfolding vehicles_stage trips_in trips_faults network_faults input_faults row_faults faults errors row_whys
    chosen_plan all_lists is_apart plan_text tour rows_behind rows_from canonical settled potentials_text
    table_text cell_text cell_texts joined digits digits_at least_sum walks_within least_of trips_of
    network_of stops_of by_id table_of cells_from cell_of values rows cleaned spelling_of value_of value_at
    fixed_of whole_of
days_without_rides = (refl, refl)

-- ---- schedules from any hand, of two trips with a dead ride of four minutes between them

abbrev two : BundleParts
two = bundle 100000000 1000000 (codes "1; 1; 1; 0; 2; 2; 2; 10; 1\n3; 1; 1; 30; 4; 2; 2; 40; 1\n")

abbrev joined_runs : List ℕ
joined_runs = codes "1; 1; 1; TRIP; 1; 1; 1; 0; 2; 2; 2; 10; 1\n"
    ++ codes "1; 1; 2; EMPTY; 2; 2; 2; 10; 3; 1; 1; 14; 0\n"
    ++ codes "1; 1; 3; TRIP; 3; 1; 1; 30; 4; 2; 2; 40; 1\n"

abbrev found : List ℕ → Option (List ℕ) → Option ScheduleFault
found = schedule_fault (trips_in two)

module _ where
  right : found joined_runs (Some (codes "1; 96; 0\n2; 0; 0\n")) ≡ None
  unfolding schedule_fault plan_faults plan_of form_faults links_in table_faults gaps_from potentials_of
      potential_faults faults errors row_whys least_sum walks_within least_of trips_in trips_of network_of
      stops_of by_id table_of cells_from cell_of values rows cleaned spelling_of value_of value_at fixed_of
      whole_of
  right = refl

  -- less than the link gains, and more than all links gain
  short : found joined_runs (Some (codes "1; 95; 0\n2; 0; 0\n")) ≡ Some rule.Pair
  unfolding schedule_fault plan_faults plan_of form_faults links_in table_faults gaps_from potentials_of
      potential_faults faults errors row_whys least_sum walks_within least_of trips_in trips_of network_of
      stops_of by_id table_of cells_from cell_of values rows cleaned spelling_of value_of value_at fixed_of
      whole_of
  short = refl

  much : found joined_runs (Some (codes "1; 96; 0\n2; 1; 0\n")) ≡ Some rule.Sum
  unfolding schedule_fault plan_faults plan_of form_faults links_in table_faults gaps_from potentials_of
      potential_faults faults errors row_whys least_sum walks_within least_of trips_in trips_of network_of
      stops_of by_id table_of cells_from cell_of values rows cleaned spelling_of value_of value_at fixed_of
      whole_of
  much = refl

  no_certificate : found joined_runs None ≡ Some rule.Certificate
  unfolding schedule_fault plan_faults plan_of form_faults links_in faults errors row_whys least_sum
      walks_within least_of trips_in trips_of network_of stops_of by_id table_of cells_from cell_of values
      rows cleaned spelling_of value_of value_at fixed_of whole_of
  no_certificate = refl

  no_potentials : found joined_runs (Some (codes "x")) ≡ Some rule.Potentials
  unfolding schedule_fault plan_faults plan_of form_faults links_in table_faults gaps_from potentials_of
      potential_faults faults errors row_whys least_sum walks_within least_of trips_in trips_of network_of
      stops_of by_id table_of cells_from cell_of values rows cleaned spelling_of value_of value_at fixed_of
      whole_of
  no_potentials = refl

  no_table : found (codes "x") None ≡ Some rule.Row
  unfolding schedule_fault plan_faults faults errors row_whys trips_in trips_of network_of stops_of by_id
      table_of cells_from cell_of values rows cleaned spelling_of value_of value_at fixed_of whole_of
  no_table = refl

  no_trip : found (codes "1; 1; 1; TRIP; 1; 1; 1; 0; 2; 2; 2; 10; 1\n") None ≡ Some rule.Trips
  unfolding schedule_fault plan_faults plan_of form_faults links_in faults errors row_whys least_sum
      walks_within least_of trips_in trips_of network_of stops_of by_id table_of cells_from cell_of values
      rows cleaned spelling_of value_of value_at fixed_of whole_of
  no_trip = refl
