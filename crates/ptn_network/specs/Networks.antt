-- Networks as texts tell them: stops and edges by id rising, and every fault of their texts.
use Rattle.std.specs.Prelude.{ℕ, ℤ, List, [], ◌++◌, length, map, slice_index_or}
use Rattle.std.specs.Map.{values_of}
use Rattle.tables.specs.declared.refusal.Refusal.{Refusal}
use Rattle.tables.specs.Inputs.{records_of, input_faults}
use Rattle.walks.specs.declared.edge.Edge.{Edge}
use Rattle.ptn_network.specs.declared.edge_row.EdgeRow.{EdgeRow}
use Rattle.ptn_network.specs.Inputs.{stop_input, edge_input}
use Rattle.walks.specs.Networks.{NetworkParts}
use Rattle.walks.specs.RisingIds.{by_id, index_in, rising}

-- the edge of a row between the stops of two indexes
abbrev pub edge_between : ℕ → ℕ → EdgeRow → Edge
edge_between left right row = record {
  id = row.id;
  left = left;
  right = right;
  length = row.length;
  lower = row.lower;
  upper = row.upper;
}

-- the edge of a row, whose ends are then indexes of stops
abbrev pub edge_of : List ℤ → EdgeRow → Edge
edge_of stops row = edge_between (index_in stops row.left) (index_in stops row.right) row

-- the edge of a row, with its id
abbrev pub edge_entry : List ℤ → EdgeRow → ℤ × Edge
edge_entry stops row = (row.id, edge_of stops row)

-- the network of stops and of rows of edges
abbrev pub network_over : List ℤ → List EdgeRow → NetworkParts
network_over stops rows =
    record { stops = stops; edges = values_of (by_id (map (edge_entry stops) rows)) }

-- the ids of the stops of a text, rising
unfoldable pub stops_of : List ℕ → List ℤ
stops_of stops_text = rising (records_of stop_input stops_text)

-- the network of the texts of stops and of edges
unfoldable pub network_of : List ℕ → List ℕ → NetworkParts
network_of stops_text edges_text =
    network_over (stops_of stops_text) (records_of (edge_input (stops_of stops_text)) edges_text)

-- every fault of the texts of stops and of edges, in order
unfoldable pub network_faults : List ℕ → List ℕ → List Refusal
network_faults stops_text edges_text =
    input_faults stop_input stops_text
    ++ input_faults (edge_input (stops_of stops_text)) edges_text

-- the network of texts of which the first two are those of stops and of edges
abbrev pub network_in : List (List ℕ) → NetworkParts
network_in texts = network_of (slice_index_or texts 0 []) (slice_index_or texts 1 [])
