-- Which files the stage of loads names where it refuses a row.
use Rattle.plan_num.proofs.Common.{◌≡◌, ℕ, pos, Bool, true, false, cond, List, unsigned_abs, int_lt}
use Rattle.plan_num.proofs.Common.{Err}
use Rattle.tables.specs.declared.counted.Counted.TheVariants as counted
use Rattle.tables.specs.declared.file_id.FileId.{FileId}
use Rattle.tables.specs.declared.refusal.Refusal.{Refusal}
use Rattle.tables.proofs.Common.{input_faults, NamesInput, AllName, names_both, names_or_else}
use Rattle.tables.proofs.Common.{names_where, input_names}
use Rattle.tables.specs.declared.file_id.FileId.TheVariants as file
use Rattle.tables.specs.declared.refusal.Refusal.TheVariants as refusal
use Rattle.giv_files.specs.declared.setting.Setting.{Setting}
use Rattle.giv_files.proofs.Common.{BundleParts, input_text, refused_names}
use Rattle.walks.proofs.Common.{NetworkParts}
use Rattle.ptn_network.specs.Networks.{network_faults}
use Rattle.ptn_network.proofs.NamedFaults.{network_names}
use Rattle.demand_load.specs.Demand.{demand_input}
use Rattle.ptn_network.specs.Loads.{load_input}
use Rattle.demand_load.specs.LoadStage.{takes_demand, text_faults, frequency_faults, network_in, loads_in, load_faults, load_stage}

-- one of two lists of refusals
either_names : (test : FileId → Bool) (b : Bool) (some others : List Refusal) → AllName test some
    → AllName test others → AllName test (cond b some others)
either_names test true some others h k = h
either_names test false some others h k = k

-- the faults of the text of demand or of given loads name the file of that text
text_names : (test : FileId → Bool) → test file.Od ≡ true → test file.LoadGiven ≡ true
    → (settings : List Setting) (network : NetworkParts) (text : List ℕ)
    → AllName test (text_faults settings network text)
unfolding text_faults
text_names test od given settings network text =
    either_names test (takes_demand settings) (input_faults (demand_input network) text)
    (input_faults (load_input file.LoadGiven network.edges) text)
    (input_names test (demand_input network) text od) (input_names test
    (load_input file.LoadGiven network.edges) text given)

-- a refusal by a row names the file of stops, of edges, of demand or of given loads
pub load_stage_names : (test : FileId → Bool) → test file.Stop ≡ true → test file.Edge ≡ true
    → test file.Od ≡ true → test file.LoadGiven ≡ true → (bundle : BundleParts) (reason : Refusal)
    → load_stage bundle ≡ Err reason → NamesInput test reason
unfolding load_stage
load_stage_names test stop edge od given bundle reason e =
    let loads = loads_in bundle in
    let rows : AllName test (load_faults bundle) =
    names_both test (network_faults (input_text bundle 0) (input_text bundle 1))
    (text_faults bundle.settings (network_in bundle.inputs) (input_text bundle 2))
    (network_names test stop edge (input_text bundle 0) (input_text bundle 1))
    (text_names test od given bundle.settings (network_in bundle.inputs) (input_text bundle 2)) in
    let frequencies : AllName test (frequency_faults loads) =
    names_where test (λ load. int_lt (pos 1000) load.most)
    (λ load. refusal.TooMany counted.Frequency (unsigned_abs load.most)) (λ _. tt) loads in
    refused_names test _ _ reason (names_or_else test (load_faults bundle)
    (frequency_faults loads) rows frequencies) e
