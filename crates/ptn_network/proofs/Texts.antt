-- The network of two texts, from what each of them gives.
use Rattle.plan_num.proofs.Common.{◌≡◌, ℕ, ℤ, List, [], map, arith, values_of}
use Rattle.tables.proofs.Common.{records_of, input_faults}
use Rattle.walks.specs.declared.edge.Edge.{Edge}
use Rattle.walks.proofs.Common.{by_id}
use Rattle.ptn_network.specs.Inputs.{stop_input, edge_input}
use Rattle.ptn_network.specs.Networks.{edge_entry, stops_of, network_of, network_faults}

module _ (stops_text edges_text : List ℕ) (stops : List ℤ) (is : stops ≡ stops_of stops_text) where
  -- the faults of the edges are all, where the stops have none
  pub edge_faults : input_faults stop_input stops_text ≡ []
      → input_faults (edge_input stops) edges_text ≡ network_faults stops_text edges_text
  unfolding network_faults
  edge_faults none = grind arith

  -- the network of the stops and of the entries of the edges
  pub network_is : (entries : List (ℤ × Edge))
      → entries ≡ by_id (map (edge_entry stops) (records_of (edge_input stops) edges_text))
      → record { stops = stops; edges = values_of entries } ≡ network_of stops_text edges_text
  unfolding network_of
  network_is entries are = grind arith
