-- The definitions on small schedules.
use Rattle.std.specs.Prelude.{⊤}
use Rattle.plan_num.proofs.Common.{◌≡◌, ℕ, refl, pos, negsuc, ◌+◌, ◌*◌, List, [], ◌∷◌, ◌++◌, codes}
use Rattle.plan_num.proofs.Common.{slice_get, Option, Some, None}
use Rattle.std.specs.Fmt.{digits}
use Rattle.event_tables.specs.declared.trip.Trip.{Trip}
use Rattle.event_tables.specs.declared.trip.TripEnd.{TripEnd}
use Rattle.tables.specs.declared.file_id.FileId.TheVariants as file
use Rattle.tables.specs.declared.row_why.RowWhy.TheVariants as why
use Rattle.tables.specs.declared.refusal.Refusal.TheVariants as refusal
use Rattle.tables.specs.Inputs.{input_faults, row_faults}
use Rattle.tables.specs.Reading.{cells_from, cell_of, values}
use Rattle.tables.specs.Reading.{faults, table_of, errors, row_whys}
use Rattle.text_fields.specs.Rows.{rows, cleaned}
use Rattle.tables.specs.Writing.{cell_text, cell_texts, joined, table_text}
use Rattle.plan_num.specs.Number.{spelling_of, value_of, value_at, fixed_of, whole_of}
use Rattle.walks.specs.declared.edge.Edge.{Edge}
use Rattle.walks.proofs.Common.{NetworkParts}
use Rattle.ptn_network.specs.Networks.{stops_of, network_of, network_faults}
use Rattle.walks.specs.RisingIds.{by_id}
use Rattle.walks.specs.Walks.{walks_within, least_of, least_sum}
use Rattle.vehicle_model.specs.declared.plan_fault.PlanFault.TheVariants as fault
use Rattle.vehicle_model.specs.Trips.{TripsParts, trips_of, trips_faults, links_of, link_minutes, dead_minutes}
use Rattle.vehicle_model.specs.Plans.{plan_cost, all_plans, all_lists, is_apart, chosen_plan}
use Rattle.vehicle_model.specs.Schedules.{tour, rows_behind, rows_from, plan_text}
use Rattle.vehicle_model.specs.ReadSchedules.{form_faults, links_in, plan_faults, plan_of}

abbrev edge : ℕ → ℕ → ℕ → ℕ → Edge
edge id left right lower = record {
  id = pos id;
  left = left;
  right = right;
  length = pos 1;
  lower = pos
      lower;
  upper = pos lower;
}

-- three stops in a row, and one more without an edge
abbrev network : NetworkParts
network = record { stops = pos 1 ∷ pos 2 ∷ pos 3 ∷ pos 4 ∷ []; edges = edge 1 0 1 4 ∷ edge 2 1 2 6 ∷ [] }

abbrev event : ℕ → ℕ → ℕ → TripEnd
event id stop time = record { event = id; periodic = id; stop = stop; time = time }

abbrev pub trip : ℕ → ℕ → ℕ → ℕ → ℕ → Trip
trip number from start to end = record {
  start = event (number * 2) from start;
  end = event (number * 2 + 1)
      to end;
  line = 1;
}

abbrev pub trips : List Trip → ℕ → ℕ → TripsParts
trips list turnover empty = record {
  network = network;
  trips = list;
  turnover = turnover;
  vehicle =
      100000000;
  empty = empty;
}

-- one trip, and two that may follow it
abbrev three : TripsParts
three = trips (trip 1 1 0 2 10 ∷ trip 2 2 12 1 22 ∷ trip 3 2 13 1 23 ∷ []) 2 1000000

links_and_plans :
    (link_minutes three 0 1 ≡ Some 0)
    -- may not
    × (link_minutes three 1 2 ≡ None)
    -- without a walk none may follow
    × (link_minutes (trips (trip 1 1 0 4 10 ∷ trip 2 1 100 2 110 ∷ []) 2 0) 0 1 ≡ None)
    × (dead_minutes network (trip 1 1 0 3 1) (trip 2 1 50 1 60) ≡ Some 10)
    × (all_plans (links_of three) ≡ (Some 1 ∷ None ∷ None ∷ []) ∷ (Some 2 ∷ None ∷ None ∷ []) ∷ (None ∷ None
    ∷ None ∷ []) ∷ [])
    -- of two cheapest plans the one with the lesser successor
    × (chosen_plan three ≡ Some 1 ∷ None ∷ None ∷ [])
    × (plan_cost three (Some 1 ∷ None ∷ None ∷ []) ≡ 200000000)
unfolding least_sum walks_within least_of all_lists is_apart chosen_plan
links_and_plans = (refl, refl, refl, refl, refl, refl, refl)

-- two trips with a dead run between them
abbrev pub two : ℕ → TripsParts
two empty = trips (trip 1 1 0 2 10 ∷ trip 2 1 30 2 40 ∷ []) 2 empty

dear_and_even :
    -- a dear one: the gain is below 0, so there are two vehicles
    (chosen_plan (two 30000000) ≡ None ∷ None ∷ [])
    -- dear cost
    × (plan_cost (two 30000000) (None ∷ None ∷ []) ≡ 200000000)
    × ((links_of (two 30000000)).gain 0 1 ≡ Some (negsuc 19999999))
    -- a link without a gain is chosen, since none counts after every trip
    × (chosen_plan (two 25000000) ≡ Some 1 ∷ None ∷ [])
    -- even cost
    × (plan_cost (two 25000000) (Some 1 ∷ None ∷ []) ≡ 200000000)
unfolding chosen_plan least_sum walks_within least_of all_lists is_apart
dear_and_even = (refl, refl, refl, refl, refl)

-- ---- texts

abbrev stops_text : List ℕ
stops_text = codes "1;;;;;\n2;;;;;\n3;;;;;\n"

abbrev edges_text : List ℕ
edges_text = codes "1; 1; 2; 2; 4; 5\n2; 2; 3; 3; 6; 6\n"

abbrev trips_text : List ℕ
trips_text = codes "1; 1; 1; 0; 4; 4; 3; 11; 1\n5; 1; 1; 20; 8; 4; 3; 31; 1\n"
    ++ codes "9; 5; 3; 0; 12; 8; 1; 11; 1\n13; 5; 3; 20; 16; 8; 1; 31; 1\n"
    ++ codes "17; 9; 1; 0; 18; 10; 2; 4; 2\n19; 9; 1; 20; 20; 10; 2; 24; 2\n"
    ++ codes "21; 11; 2; 0; 22; 12; 1; 4; 2\n23; 11; 2; 20; 24; 12; 1; 24; 2\n"

-- a trip for each rule
broken : trips_faults stops_text edges_text (codes "1; 1; 1; 0; 2; 2; 2; 4; 1\n1; 1; 1; 0; 2; 2; 2; 4; 1\n"
    ++ codes "3; 1; 5; 0; 2; 2; 2; 4; 1\n5; 1; 1; 4; 2; 2; 2; 4; 1\n")
    ≡ refusal.BadRow file.Trips 2 why.RepeatedId ∷ refusal.BadRow file.Trips 3 why.UnknownStop
    ∷ refusal.BadRow file.Trips 4 why.Backward ∷ []
unfolding trips_faults network_of network_faults stops_of input_faults row_faults faults by_id table_of
    cells_from cell_of values errors row_whys rows cleaned spelling_of value_of value_at fixed_of whole_of
broken = refl

abbrev pub eight : TripsParts
eight = trips_of stops_text edges_text trips_text 2 100000000 1000000

abbrev pairs : List (Option ℕ)
pairs = Some 3 ∷ None ∷ Some 1 ∷ None ∷ Some 7 ∷ None ∷ Some 5 ∷ None ∷ []

eight_chosen : chosen_plan eight ≡ pairs
unfolding chosen_plan least_sum walks_within least_of all_lists is_apart trips_of network_of stops_of by_id
    table_of cells_from cell_of values rows cleaned spelling_of value_of value_at fixed_of whole_of
eight_chosen = refl

abbrev pub schedule : List ℕ
schedule =
    codes "# circulation; vehicle; number; type; start-id; periodic-start-id; start-stop; start-time; end-id; "
    ++ codes "periodic-end-id; end-stop; end-time; line\n"
    ++ codes "1; 1; 1; TRIP; 1; 1; 1; 0; 4; 4; 3; 11; 1\n"
    ++ codes "1; 1; 2; EMPTY; 4; 4; 3; 11; 13; 5; 3; 11; 0\n"
    ++ codes "1; 1; 3; TRIP; 13; 5; 3; 20; 16; 8; 1; 31; 1\n"
    ++ codes "2; 2; 1; TRIP; 9; 5; 3; 0; 12; 8; 1; 11; 1\n"
    ++ codes "2; 2; 2; EMPTY; 12; 8; 1; 11; 5; 1; 1; 11; 0\n"
    ++ codes "2; 2; 3; TRIP; 5; 1; 1; 20; 8; 4; 3; 31; 1\n"
    ++ codes "3; 3; 1; TRIP; 17; 9; 1; 0; 18; 10; 2; 4; 2\n"
    ++ codes "3; 3; 2; EMPTY; 18; 10; 2; 4; 23; 11; 2; 4; 0\n"
    ++ codes "3; 3; 3; TRIP; 23; 11; 2; 20; 24; 12; 1; 24; 2\n"
    ++ codes "4; 4; 1; TRIP; 21; 11; 2; 0; 22; 12; 1; 4; 2\n"
    ++ codes "4; 4; 2; EMPTY; 22; 12; 1; 4; 19; 9; 1; 4; 0\n"
    ++ codes "4; 4; 3; TRIP; 19; 9; 1; 20; 20; 10; 2; 24; 2\n"

eight_as_text :
    (plan_text eight pairs ≡ schedule)
    × (plan_of eight schedule ≡ pairs)
    × (plan_faults eight schedule ≡ [])
unfolding plan_text table_text cell_text cell_texts joined digits tour rows_behind rows_from least_sum
    walks_within least_of trips_of network_of stops_of by_id table_of cells_from cell_of values rows cleaned
    spelling_of value_of value_at fixed_of whole_of plan_of links_in plan_faults form_faults faults errors
    row_whys
eight_as_text = (refl, refl, refl)

-- what the faults of rows are computed by
unfoldable on_rows : ⊤
unfolding plan_faults form_faults links_in faults errors row_whys least_sum walks_within least_of
    table_of cells_from cell_of values rows cleaned spelling_of value_of value_at fixed_of whole_of
on_rows = tt

-- ---- schedules from any hand, over two trips

-- a text that is no table
no_table : slice_get (plan_faults (two 1000000) (codes "x\n")) 0 ≡ Some (fault.Row (record {
  row = 1;
  why =
      why.FieldCount 1;
}))
unfolding on_rows
no_table = refl

two_trips_from_any_hand :
    -- vehicles in any order
    (slice_get (plan_faults (two 1000000) (codes "1; 1; 1; TRIP; 4; 4; 1; 30; 5; 5; 2; 40; 1\n"
    ++ codes "2; 2; 1; TRIP; 2; 2; 1; 0; 3; 3; 2; 10; 1\n")) 0 ≡ None)
    -- two trips without an empty run between them
    × (slice_get (plan_faults (two 1000000) (codes "1; 1; 1; TRIP; 2; 2; 1; 0; 3; 3; 2; 10; 1\n"
    ++ codes "1; 1; 2; TRIP; 4; 4; 1; 30; 5; 5; 2; 40; 1\n")) 0 ≡ Some (fault.Trips 2))
    -- the same, counted as if there were one
    × (slice_get (plan_faults (two 1000000) (codes "1; 1; 1; TRIP; 2; 2; 1; 0; 3; 3; 2; 10; 1\n"
    ++ codes "1; 1; 3; TRIP; 4; 4; 1; 30; 5; 5; 2; 40; 1\n")) 0 ≡ Some (fault.Trips 2))
    -- an empty run before the first trip
    × (slice_get (plan_faults (two 1000000) (codes "1; 1; 1; EMPTY; 3; 3; 2; 10; 4; 4; 1; 14; 0\n"
    ++ codes "1; 1; 2; TRIP; 2; 2; 1; 0; 3; 3; 2; 10; 1\n"
    ++ codes "2; 2; 1; TRIP; 4; 4; 1; 30; 5; 5; 2; 40; 1\n")) 0 ≡ Some (fault.Trips 1))
    -- an empty run behind the last trip
    × (slice_get (plan_faults (two 1000000) (codes "1; 1; 1; TRIP; 2; 2; 1; 0; 3; 3; 2; 10; 1\n"
    ++ codes "1; 1; 2; EMPTY; 3; 3; 2; 10; 4; 4; 1; 14; 0\n"
    ++ codes "2; 2; 1; TRIP; 4; 4; 1; 30; 5; 5; 2; 40; 1\n")) 0 ≡ Some (fault.Trips 2))
    -- an empty run at the end of the text
    × (slice_get (plan_faults (two 1000000) (codes "1; 1; 1; TRIP; 4; 4; 1; 30; 5; 5; 2; 40; 1\n"
    ++ codes "2; 2; 1; TRIP; 2; 2; 1; 0; 3; 3; 2; 10; 1\n"
    ++ codes "2; 2; 2; EMPTY; 3; 3; 2; 10; 4; 4; 1; 14; 0\n")) 0 ≡ Some (fault.Trips 3))
    -- two empty runs
    × (slice_get (plan_faults (two 1000000) (codes "1; 1; 1; TRIP; 2; 2; 1; 0; 3; 3; 2; 10; 1\n"
    ++ codes "1; 1; 2; EMPTY; 3; 3; 2; 10; 4; 4; 1; 14; 0\n"
    ++ codes "1; 1; 3; EMPTY; 3; 3; 2; 10; 4; 4; 1; 14; 0\n"
    ++ codes "1; 1; 4; TRIP; 4; 4; 1; 30; 5; 5; 2; 40; 1\n")) 0 ≡ Some (fault.Trips 2))
    -- a vehicle is left out
    × (slice_get (plan_faults (two 1000000) (codes "1; 1; 1; TRIP; 2; 2; 1; 0; 3; 3; 2; 10; 1\n"
    ++ codes "3; 3; 1; TRIP; 4; 4; 1; 30; 5; 5; 2; 40; 1\n")) 0 ≡ Some (fault.Trips 2))
    -- a circulation that is not the vehicle
    × (slice_get (plan_faults (two 1000000) (codes "2; 1; 1; TRIP; 2; 2; 1; 0; 3; 3; 2; 10; 1\n"
    ++ codes "2; 2; 1; TRIP; 4; 4; 1; 30; 5; 5; 2; 40; 1\n")) 0 ≡ Some (fault.Trips 1))
    -- an empty run of other minutes
    × (slice_get (plan_faults (two 1000000) (codes "1; 1; 1; TRIP; 2; 2; 1; 0; 3; 3; 2; 10; 1\n"
    ++ codes "1; 1; 2; EMPTY; 3; 3; 2; 10; 4; 4; 1; 15; 0\n"
    ++ codes "1; 1; 3; TRIP; 4; 4; 1; 30; 5; 5; 2; 40; 1\n")) 0 ≡ Some (fault.Trips 2))
    -- an empty run of a line
    × (slice_get (plan_faults (two 1000000) (codes "1; 1; 1; TRIP; 2; 2; 1; 0; 3; 3; 2; 10; 1\n"
    ++ codes "1; 1; 2; EMPTY; 3; 3; 2; 10; 4; 4; 1; 14; 1\n"
    ++ codes "1; 1; 3; TRIP; 4; 4; 1; 30; 5; 5; 2; 40; 1\n")) 0 ≡ Some (fault.Trips 2))
    -- an empty run that begins elsewhere
    × (slice_get (plan_faults (two 1000000) (codes "1; 1; 1; TRIP; 2; 2; 1; 0; 3; 3; 2; 10; 1\n"
    ++ codes "1; 1; 2; EMPTY; 3; 3; 1; 10; 4; 4; 1; 14; 0\n"
    ++ codes "1; 1; 3; TRIP; 4; 4; 1; 30; 5; 5; 2; 40; 1\n")) 0 ≡ Some (fault.Trips 2))
    -- a row that repeats no trip; the end of the empty run before it is not looked at
    × (slice_get (plan_faults (two 1000000) (codes "1; 1; 1; TRIP; 2; 2; 1; 0; 3; 3; 2; 10; 1\n"
    ++ codes "1; 1; 2; EMPTY; 3; 3; 2; 10; 4; 4; 1; 77; 0\n"
    ++ codes "1; 1; 3; TRIP; 4; 4; 1; 31; 5; 5; 2; 40; 1\n")) 0 ≡ Some (fault.Trips 3))
    -- a trip that has come before
    × (slice_get (plan_faults (two 1000000) (codes "1; 1; 1; TRIP; 2; 2; 1; 0; 3; 3; 2; 10; 1\n"
    ++ codes "2; 2; 1; TRIP; 2; 2; 1; 0; 3; 3; 2; 10; 1\n"
    ++ codes "3; 3; 1; TRIP; 4; 4; 1; 30; 5; 5; 2; 40; 1\n")) 0 ≡ Some (fault.Trips 2))
    -- a trip without a row
    × (slice_get (plan_faults (two 1000000) (codes "1; 1; 1; TRIP; 2; 2; 1; 0; 3; 3; 2; 10; 1\n")) 0 ≡ Some
    (fault.Trips 0))
    -- a link that may not follow
    × (slice_get (plan_faults (two 1000000) (codes "1; 1; 1; TRIP; 4; 4; 1; 30; 5; 5; 2; 40; 1\n"
    ++ codes "1; 1; 2; EMPTY; 5; 5; 2; 40; 2; 2; 1; 44; 0\n"
    ++ codes "1; 1; 3; TRIP; 2; 2; 1; 0; 3; 3; 2; 10; 1\n")) 0 ≡ Some (fault.Follow 0))
    -- a break of form comes before it
    × (slice_get (plan_faults (two 1000000) (codes "1; 1; 1; TRIP; 4; 4; 1; 30; 5; 5; 2; 40; 1\n"
    ++ codes "1; 1; 2; EMPTY; 5; 5; 2; 40; 2; 2; 1; 44; 0\n"
    ++ codes "1; 1; 3; TRIP; 2; 2; 1; 0; 3; 3; 2; 10; 1\n"
    ++ codes "1; 1; 4; TRIP; 2; 2; 1; 0; 3; 3; 2; 10; 1\n")) 0 ≡ Some (fault.Trips 4))
    -- rows are numbered as in the text
    × (slice_get (plan_faults (two 1000000) (codes "# a comment\n"
    ++ codes "1; 1; 1; TRIP; 2; 2; 1; 0; 3; 3; 2; 10; 1\n"
    ++ codes "1; 1; 2; TRIP; 4; 4; 1; 30; 5; 5; 2; 40; 1\n")) 0 ≡ Some (fault.Trips 3))
    -- a link between two stops that no walk joins: its minutes are not looked at
    × (plan_faults (trips (trip 1 1 0 4 10 ∷ trip 2 1 30 2 40 ∷ []) 2 0)
    (codes "1; 1; 1; TRIP; 2; 2; 1; 0; 3; 3; 4; 10; 1\n1; 1; 2; EMPTY; 3; 3; 4; 10; 4; 4; 1; 99; 0\n"
    ++ codes "1; 1; 3; TRIP; 4; 4; 1; 30; 5; 5; 2; 40; 1\n") ≡ fault.Follow 1 ∷ [])
unfolding on_rows
two_trips_from_any_hand = (
  refl,
  refl,
  refl,
  refl,
  refl,
  refl,
  refl,
  refl,
  refl,
  refl,
  refl,
  refl,
  refl,
  refl,
  refl,
  refl,
  refl,
  refl,
  refl,
)
