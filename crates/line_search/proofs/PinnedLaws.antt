-- The laws of the stage of a planner's concept: which files it makes, that they are right, and
-- which file a refusal names.
use Rattle.plan_num.proofs.Common.{arith, ◌≡◌, Bool, true, Ok, Err}
use Rattle.tables.specs.declared.file_id.FileId.{FileId}
use Rattle.tables.specs.declared.refusal.Refusal.{Refusal}
use Rattle.tables.proofs.Common.{input_faults, NamesInput, AllName, input_names, names_both}
use Rattle.tables.specs.declared.file_id.FileId.TheVariants as file
use Rattle.giv_files.specs.declared.made.Made.{Made}
use Rattle.giv_files.proofs.Common.{MakesAs, ids_of, BundleParts, Fits, input_text, refused_names}
use Rattle.giv_files.specs.declared.stage.Stage.TheVariants as stage
use Rattle.ptn_network.specs.Loads.{load_input}
use Rattle.ptn_network.specs.Networks.{network_in}
use Rattle.line_walks.specs.PoolCosts.{pool_cost_input}
use Rattle.line_search.specs.GivenProblems.{lines_in, problem_faults, problem_of}
use Rattle.line_search.specs.PinnedConcepts.{made_of_texts, pinned_concept_faults}
use Rattle.line_search.specs.PinnedConcepts.{pinned_concept_stage, pinned_input}
use Rattle.line_search.specs.RightPinned.{ConceptIsRight}
use Rattle.line_search.proofs.ConceptNames.{problem_names}
use Rattle.line_search.proofs.PinnedReads.{pinned_right}

-- it makes the files that it may make: without a mark there is no Tree
pub pinned_concept_makes : (bundle : BundleParts) (made : Made)
    → pinned_concept_stage bundle ≡ Ok made → MakesAs stage.PinnedConcept (ids_of made.files)
unfolding pinned_concept_stage
pinned_concept_makes bundle made is = grind arith

-- what it makes is right
pub pinned_concept_right : (bundle : BundleParts) (made : Made) → bundle.stage ≡ stage.PinnedConcept
    → Fits bundle → pinned_concept_stage bundle ≡ Ok made → ConceptIsRight bundle made.files
pinned_concept_right bundle made same fits is = pinned_right bundle made is

-- a refusal by a row names the file of stops, of edges, of the pool or of the planner's concept, or
-- what the faults of loads and of costs do
pub pinned_concept_names : (test : FileId → Bool) → test file.Stop ≡ true → test file.Edge ≡ true
    → test file.Pool ≡ true → test file.PinnedConcept ≡ true → (bundle : BundleParts)
    → AllName test (input_faults (load_input file.Load (network_in bundle.inputs).edges) (input_text bundle 3))
    → AllName test (input_faults (pool_cost_input (lines_in bundle)) (input_text bundle 4))
    → (reason : Refusal) → pinned_concept_stage bundle ≡ Err reason → NamesInput test reason
unfolding pinned_concept_stage
pinned_concept_names test stop edge pool concept bundle of_loads of_costs reason is =
    let given = pinned_input (problem_of bundle) in
    refused_names test (pinned_concept_faults bundle)
    (made_of_texts (problem_of bundle) (input_text bundle 5) (input_text bundle 6)) reason
    (names_both test (problem_faults bundle) (input_faults given (input_text bundle 5))
    (problem_names test stop edge pool bundle of_loads of_costs)
    (input_names test given (input_text bundle 5) concept)) is
