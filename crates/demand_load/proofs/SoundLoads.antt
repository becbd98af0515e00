-- What holds of the loads of each text without a fault.
use Rattle.plan_num.proofs.Common.{◌≡◌, ℕ, ℤ, pos, ◌≤◌, true, false, cond, List, [], ◌∷◌, length}
use Rattle.plan_num.proofs.Common.{map, get_or, refl, arith, lit<, All, range_with_len, values_of}
use Rattle.plan_num.proofs.Common.{All-nil, All-cons, All-head, All-tail, All-map, All-weaker}
use Rattle.tables.specs.declared.column.ColumnKind.TheVariants as kind
use Rattle.tables.specs.declared.counted.Counted.TheVariants as counted
use Rattle.giv_files.specs.declared.setting.Setting.{Setting}
use Rattle.tables.proofs.Common.{edge_columns, records, records_of, row_limit, input_faults}
use Rattle.tables.proofs.Common.{table_of, TableRow, InColumns, few_rows, sound_rows, back_none}
use Rattle.tables.proofs.Common.{in_column}
use Rattle.ptn_network.specs.Inputs.{stop_input, edge_input, edge_row}
use Rattle.walks.proofs.Common.{NetworkParts, all_by_id}
use Rattle.ptn_network.specs.Networks.{edge_of, edge_entry, stops_of, network_of, network_faults}
use Rattle.demand_load.specs.Demand.{demand_input, demand_loads, load_of}
use Rattle.tables.specs.declared.file_id.FileId.TheVariants as file
use Rattle.ptn_network.specs.Loads.{load_input, loads_of, IsBounded, IsLoad}
use Rattle.ptn_network.proofs.LoadRows.{loads_sound as edge_loads_sound}
use Rattle.demand_load.specs.LoadStage.{bounded, takes_demand, loads_by, text_faults}
use Rattle.demand_load.specs.LoadTables.{HasId}
use Rattle.demand_load.proofs.SmallLoads.{few_customers, load_small}

-- ---- the ids of edges

has_id : (stops : List ℤ) (cells : List ℤ) → InColumns edge_columns cells
    → HasId (edge_of stops (edge_row cells))
has_id stops cells within = let p = in_column edge_columns cells 0 kind.Skip (pos 0) within
    (lit< tt) in record { low = p.0; high = p.1 }

all_entries : (stops : List ℤ) (rows : List TableRow)
    → All (λ row. HasId (edge_of stops (edge_row row.cells))) rows
    → All HasId (values_of (map (edge_entry stops) (records (edge_input stops) rows)))
all_entries stops [] all = All-nil HasId
all_entries stops (row ∷ rows) all =
    All-cons HasId _ (values_of (map (edge_entry stops) (records (edge_input stops) rows)))
    (All-head (λ r. HasId (edge_of stops (edge_row r.cells))) row rows all)
    (all_entries stops rows (All-tail (λ r. HasId (edge_of stops (edge_row r.cells))) row rows
    all))

-- the edges of texts without a fault have ids
pub edges_named : (stops_text edges_text : List ℕ) → network_faults stops_text edges_text ≡ []
    → All HasId (network_of stops_text edges_text).edges
unfolding network_faults network_of
edges_named stops_text edges_text none =
    let stops = stops_of stops_text in
    let input = edge_input stops in
    let sound = sound_rows input edges_text (back_none (input_faults stop_input stops_text)
    (input_faults input edges_text) none) in
    all_by_id HasId (map (edge_entry stops) (records_of input edges_text))
    (all_entries stops (table_of input.columns edges_text)
    (λ k d h. has_id stops _ (sound k d h).2))

-- ---- demand

-- no load by a text of demand is great
pub demand_small : (network : NetworkParts) (text : List ℕ)
    → input_faults (demand_input network) text ≡ []
    → All (λ load. load ≤ 100000000000000000) (demand_loads network
    (records_of (demand_input network) text))
demand_small network text none =
    let input = demand_input network in
    let rows = records_of input text in
    let cells = sound_rows input text none in
    let customers = few_customers network (table_of input.columns text)
    (λ k d h. (cells k d h).2) in
    let few = few_rows input text (row_limit counted.DemandRows 100000) [] refl none in
    All-map (λ (load : ℕ). load ≤ 100000000000000000) (load_of network rows)
    (range_with_len 0 (length network.edges)) (λ k d h.
    let small = load_small network rows (get_or (range_with_len 0 (length network.edges)) k d)
    customers in
    omega arith)

bounded_sound : (settings : List Setting) (load : ℕ) → load ≤ 100000000000000000
    → IsBounded (bounded settings load)
bounded_sound settings load small = grind arith

-- the loads of a text without a fault are bounded
pub loads_sound : (settings : List Setting) (network : NetworkParts) (text : List ℕ)
    → text_faults settings network text ≡ [] → All IsBounded (loads_by settings network text)
unfolding loads_by text_faults
loads_sound settings network text none =
    elim (takes_demand settings) as (λ b. cond b (input_faults (demand_input network) text)
    (input_faults (load_input file.LoadGiven network.edges) text) ≡ []
    → All IsBounded (cond b (map (bounded settings)
    (demand_loads network (records_of (demand_input network) text)))
    (loads_of file.LoadGiven network.edges text))) [
      | true ↦ λ fine. All-map IsBounded (bounded settings)
          (demand_loads network (records_of (demand_input network) text))
          (All-weaker (λ (load : ℕ). load ≤ 100000000000000000)
          (λ load. IsBounded (bounded settings load)) (bounded_sound settings) _
          (demand_small network text fine))
      | false ↦ λ fine. All-weaker IsLoad IsBounded (λ load is. is.bounded) _
          (edge_loads_sound file.LoadGiven network.edges text fine)
    ] none
