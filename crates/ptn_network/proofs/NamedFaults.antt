-- Which files the faults of a network name.
use Rattle.plan_num.proofs.Common.{◌≡◌, ℕ, Bool, true, List}
use Rattle.tables.specs.declared.file_id.FileId.{FileId}
use Rattle.tables.proofs.Common.{input_faults, AllName, names_both, input_names}
use Rattle.tables.specs.declared.file_id.FileId.TheVariants as file
use Rattle.ptn_network.specs.Inputs.{stop_input, edge_input}
use Rattle.ptn_network.specs.Networks.{stops_of, network_faults}

-- they are those of stops and of edges
pub network_names : (test : FileId → Bool) → test file.Stop ≡ true → test file.Edge ≡ true
    → (stops_text edges_text : List ℕ) → AllName test (network_faults stops_text edges_text)
unfolding network_faults
network_names test stop edge stops_text edges_text =
    names_both test (input_faults stop_input stops_text)
    (input_faults (edge_input (stops_of stops_text)) edges_text)
    (input_names test stop_input stops_text stop) (input_names test
    (edge_input (stops_of stops_text)) edges_text edge)
