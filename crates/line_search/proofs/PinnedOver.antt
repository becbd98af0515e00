-- What is right about a line concept, whoever gave it: over the inputs of the search alone, and
-- what a judge finds.
use Rattle.plan_num.proofs.Common.{arith, ◌≡◌, List, refl}
use Rattle.giv_files.specs.declared.made.MadeFile.{MadeFile}
use Rattle.giv_files.proofs.Common.{BundleParts, input_text}
use Rattle.ptn_network.specs.Networks.{network_in}
use Rattle.line_search.specs.GivenProblems.{problem_faults, problem_of}
use Rattle.line_search.specs.RightConcepts.{ConceptFilesAreRight}
use Rattle.line_search.specs.RightPinned.{ConceptIsRight}

-- two bundles have the same texts of stops, of edges, of the pool, of loads and of costs
pub record HaveSameTexts (bundle other : BundleParts) : Type 0 where
  pub stops : input_text bundle 0 ≡ input_text other 0
  pub edges : input_text bundle 1 ≡ input_text other 1
  pub pool : input_text bundle 2 ≡ input_text other 2
  pub loads : input_text bundle 3 ≡ input_text other 3
  pub costs : input_text bundle 4 ≡ input_text other 4

module _ (bundle other : BundleParts) (same : HaveSameTexts bundle other) where
  pub same_problem : problem_of bundle ≡ problem_of other
  unfolding problem_of
  same_problem = rw (same.stops, same.edges, same.pool, same.loads, same.costs) refl

  pub same_faults : problem_faults bundle ≡ problem_faults other
  unfolding problem_faults
  same_faults = rw (same.stops, same.edges, same.pool, same.loads, same.costs) refl

  same_network : network_in bundle.inputs ≡ network_in other.inputs
  same_network = rw (same.stops, same.edges) refl

  -- a concept that is right over the one is right over the other
  pub right_over : (files : List MadeFile) → ConceptIsRight bundle files
      → ConceptIsRight other files
  right_over files right = grind (arith, same_faults, same_problem, same_network)

-- a concept that a search found is right as one from any hand is
pub found_right : (bundle : BundleParts) (files : List MadeFile) → ConceptFilesAreRight bundle files
    → ConceptIsRight bundle files
found_right bundle files right = grind arith
