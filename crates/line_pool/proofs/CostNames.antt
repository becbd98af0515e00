-- Which files the stage of costs names where it refuses a row.
use Rattle.plan_num.proofs.Common.{◌≡◌, ℕ, Bool, true, List, Err}
use Rattle.tables.specs.declared.file_id.FileId.{FileId}
use Rattle.tables.specs.declared.refusal.Refusal.{Refusal}
use Rattle.tables.proofs.Common.{NamesInput, AllName, names_both, input_names}
use Rattle.tables.specs.declared.file_id.FileId.TheVariants as file
use Rattle.giv_files.proofs.Common.{BundleParts, input_text, refused_names}
use Rattle.walks.proofs.Common.{NetworkParts}
use Rattle.ptn_network.specs.Networks.{network_faults}
use Rattle.ptn_network.proofs.NamedFaults.{network_names}
use Rattle.line_walks.specs.Pools.{line_input, line_faults, pool_faults}
use Rattle.line_walks.specs.declared.line_file.LineFile.TheVariants as kind
use Rattle.line_pool.specs.CostStage.{network_in, cost_faults, cost_stage}

-- the faults of a pool name its file
pool_names : (test : FileId → Bool) → test file.Pool ≡ true
    → (network : NetworkParts) (text : List ℕ) → AllName test (pool_faults network text)
unfolding line_faults
pool_names test pool network text = input_names test (line_input kind.Pool network.edges) text pool

-- a refusal by a row names the file of stops, of edges or of the pool
pub cost_stage_names : (test : FileId → Bool) → test file.Stop ≡ true → test file.Edge ≡ true
    → test file.Pool ≡ true → (bundle : BundleParts) (reason : Refusal) → cost_stage bundle
    ≡ Err reason → NamesInput test reason
unfolding cost_stage
cost_stage_names test stop edge pool bundle reason e =
    let named : AllName test (cost_faults bundle) =
    names_both test (network_faults (input_text bundle 0) (input_text bundle 1))
    (pool_faults (network_in bundle.inputs) (input_text bundle 2))
    (network_names test stop edge (input_text bundle 0) (input_text bundle 1))
    (pool_names test pool (network_in bundle.inputs) (input_text bundle 2)) in
    refused_names test (cost_faults bundle) _ reason named e
