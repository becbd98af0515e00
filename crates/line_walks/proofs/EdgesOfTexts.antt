-- The ids of the edges of a network that texts give.
use Rattle.plan_num.proofs.Common.{◌≡◌, ℕ, ℤ, pos, ◌≤ℤ◌, arith, lit<, List, [], ◌∷◌, map, All}
use Rattle.plan_num.proofs.Common.{values_of, All-cons, All-head, All-tail}
use Rattle.tables.specs.declared.column.ColumnKind.TheVariants as kind
use Rattle.tables.proofs.Common.{edge_columns, records, records_of, input_faults, table_of}
use Rattle.tables.proofs.Common.{TableRow, InColumns, sound_rows, back_none, in_column}
use Rattle.walks.specs.declared.edge.Edge.{Edge}
use Rattle.walks.proofs.Common.{all_by_id}
use Rattle.ptn_network.specs.Inputs.{stop_input, edge_input, edge_row}
use Rattle.ptn_network.specs.Networks.{edge_entry, edge_of, network_faults, network_of, stops_of}

-- an edge has an id that a row can have
abbrev pub HasId : Edge → Type 0
HasId edge = (pos 1 ≤ℤ edge.id) × (edge.id ≤ℤ pos 1000000000)

entries : (stops : List ℤ) (rows : List TableRow)
    → All (λ row. InColumns edge_columns row.cells) rows → All HasId
    (values_of (map (edge_entry stops) (records (edge_input stops) rows)))
entries stops [] all = λ k d h. absurd (omega arith)
entries stops (row ∷ rows) all =
    All-cons HasId (edge_of stops (edge_row row.cells))
    (values_of (map (edge_entry stops) (records (edge_input stops) rows)))
    (in_column edge_columns row.cells 0 kind.Skip (pos 0)
    (All-head (λ row. InColumns edge_columns row.cells) row rows all) (lit< tt))
    (entries stops rows (All-tail (λ row. InColumns edge_columns row.cells) row rows all))

-- each of them is one
pub edge_ids : (stops_text edges_text : List ℕ) → network_faults stops_text edges_text ≡ []
    → All HasId (network_of stops_text edges_text).edges
unfolding network_faults network_of
edge_ids stops_text edges_text none =
    let stops = stops_of stops_text in
    let input = edge_input stops in
    let own = back_none (input_faults stop_input stops_text) (input_faults input edges_text) none in
    let sound = sound_rows input edges_text own in
    all_by_id HasId (map (edge_entry stops) (records_of input edges_text))
    (entries stops (table_of input.columns edges_text) (λ k d h. (sound k d h).2))
