-- Which files the stage of line concepts names where it refuses a row.
use Rattle.plan_num.proofs.Common.{arith, ◌≡◌, ℕ, Bool, true, List, [], ◌∷◌, ◌++◌, slice_get, Some}
use Rattle.plan_num.proofs.Common.{Err, refl, subst}
use Rattle.tables.specs.declared.file_id.FileId.{FileId}
use Rattle.tables.specs.declared.refusal.Refusal.{Refusal}
use Rattle.tables.proofs.Common.{input_faults, NamesInput, NamesOnly, AllName, input_names}
use Rattle.tables.proofs.Common.{names_both}
use Rattle.tables.specs.declared.file_id.FileId.TheVariants as file
use Rattle.giv_files.proofs.Common.{BundleParts, input_text, names_after, fine_after}
use Rattle.ptn_network.specs.Loads.{load_input}
use Rattle.walks.proofs.Common.{NetworkParts}
use Rattle.ptn_network.specs.Networks.{network_faults, network_in}
use Rattle.ptn_network.proofs.NamedFaults.{network_names}
use Rattle.line_walks.specs.PoolCosts.{pool_cost_input}
use Rattle.line_walks.specs.Pools.{line_faults, pool_faults}
use Rattle.line_cost_model.proofs.Common.{ProblemParts}
use Rattle.line_search.specs.ConceptResults.{result_within}
use Rattle.line_search.specs.ConceptStage.{concept_stage, search_made}
use Rattle.line_search.specs.GivenProblems.{lines_in, problem_faults}
use Rattle.line_concepts.specs.Listings.{Entry}

-- a search names no file
search_names : (test : FileId → Bool) (problem : ProblemParts) (budget : ℕ) (entries : List Entry)
    (reason : Refusal) → search_made problem (result_within budget entries) ≡ Err reason
    → NamesOnly test reason
unfolding result_within
search_names test problem budget entries reason is = grind arith

-- the faults of a pool name its file
pool_names : (test : FileId → Bool) → test file.Pool ≡ true → (network : NetworkParts)
    (text : List ℕ) → AllName test (pool_faults network text)
unfolding line_faults
pool_names test pool network text = input_names test _ text pool

-- the faults of a bundle name the file of stops, of edges, of the pool, and what those of loads and costs do
pub problem_names : (test : FileId → Bool) → test file.Stop ≡ true → test file.Edge ≡ true
    → test file.Pool ≡ true → (bundle : BundleParts)
    → AllName test (input_faults (load_input file.Load (network_in bundle.inputs).edges) (input_text bundle 3))
    → AllName test (input_faults (pool_cost_input (lines_in bundle)) (input_text bundle 4))
    → AllName test (problem_faults bundle)
unfolding problem_faults
problem_names test stop edge pool bundle of_loads of_costs =
    let network = network_faults (input_text bundle 0) (input_text bundle 1) in
    let lines = pool_faults (network_in bundle.inputs) (input_text bundle 2) in
    let loads = input_faults (load_input file.Load (network_in bundle.inputs).edges) (input_text bundle 3)
    in
    names_both test (network ++ lines ++ loads) _
    (names_both test (network ++ lines) loads
    (names_both test network lines
    (network_names test stop edge (input_text bundle 0) (input_text bundle 1))
    (pool_names test pool (network_in bundle.inputs) (input_text bundle 2)))
    of_loads)
    of_costs

-- each of them is that of an input, and so is the first one
pub input_faults_only : (bundle : BundleParts) → AllName (λ _. true) (problem_faults bundle)
input_faults_only bundle =
    problem_names (λ _. true) refl refl refl bundle
    (input_names (λ _. true) (load_input file.Load (network_in bundle.inputs).edges) (input_text bundle 3) refl)
    (input_names (λ _. true) (pool_cost_input (lines_in bundle)) (input_text bundle 4) refl)

pub inputs_fine : (bundle : BundleParts) (reason : Refusal) → ¬ NamesInput (λ _. true) reason
    → concept_stage bundle ≡ Err reason → problem_faults bundle ≡ []
unfolding concept_stage
inputs_fine bundle reason other is = grind (arith, fine_after, input_faults_only)

first_named : (test : FileId → Bool) (faults : List Refusal) (first : Refusal) → AllName test faults
    → slice_get faults 0 ≡ Some first → NamesInput test first
first_named test [] first all is = absurd (cc)
first_named test (refusal ∷ more) first all is =
    let same : refusal ≡ first = cc in subst (NamesInput test) same all.0

pub input_refused : (bundle : BundleParts) (first : Refusal)
    → slice_get (problem_faults bundle) 0 ≡ Some first → NamesInput (λ _. true) first
input_refused bundle first is = first_named (λ _. true) (problem_faults bundle) first (input_faults_only bundle) is

-- so a refusal by a row names one of these
pub concept_stage_names : (test : FileId → Bool) → test file.Stop ≡ true → test file.Edge ≡ true
    → test file.Pool ≡ true → (bundle : BundleParts)
    → AllName test (input_faults (load_input file.Load (network_in bundle.inputs).edges) (input_text bundle 3))
    → AllName test (input_faults (pool_cost_input (lines_in bundle)) (input_text bundle 4))
    → (reason : Refusal) → concept_stage bundle ≡ Err reason → NamesOnly test reason
unfolding concept_stage
concept_stage_names test stop edge pool bundle of_loads of_costs reason is =
    grind (arith, names_after, problem_names, search_names)
