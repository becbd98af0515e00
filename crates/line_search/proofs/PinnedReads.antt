-- What is made of a planner's concept is right.
use Rattle.plan_num.proofs.Common.{◌≡◌, ℕ, pos, Bool, true, false, not, List, [], ◌∷◌, arith}
use Rattle.plan_num.proofs.Common.{slice_get, option_map, is_some, Option, Some, None, Ok, refl, ap}
use Rattle.plan_num.proofs.Common.{sym, ◌∙◌, subst, map-map}
use Rattle.giv_files.specs.declared.made.Made.{Made}
use Rattle.giv_files.proofs.Common.{BundleParts, input_text, made_unless, none_unless}
use Rattle.tables.specs.declared.row_why.RowWhy.TheVariants as why
use Rattle.tables.proofs.Common.{concept_columns, Input, records, whole_rule, table_of, TableRow}
use Rattle.tables.proofs.Common.{parts_sound, table_sound, whole_rule_sound, back_none, front_none}
use Rattle.line_cost_model.proofs.Common.{IsFeasible, cost_of, is_feasible, IsProblem, ProblemParts}
use Rattle.line_cost_model.proofs.Common.{test_means}
use Rattle.line_concepts.specs.declared.fault.TreeFault.{TreeFault}
use Rattle.line_concepts.specs.declared.node.Node.{Node}
use Rattle.line_concepts.specs.TreeFaults.{tree_faults}
use Rattle.branch_certificate.specs.TreeFiles.{read_faults, tree_of}
use Rattle.branch_certificate.specs.TreeTexts.{tree_text}
use Rattle.line_concepts.proofs.Certifying.{no_fault_certifies}
use Rattle.branch_certificate.proofs.FaultlessTrees.{faultless_tree}
use Rattle.line_search.specs.declared.fault.ConceptFault.{ConceptFault}
use Rattle.line_search.specs.ConceptTables.{concept_text, frequencies_in}
use Rattle.line_search.specs.GivenProblems.{problem_faults, problem_of}
use Rattle.line_search.specs.Judged.{frequencies_of}
use Rattle.line_search.specs.Judged.{rule_of, tree_rule}
use Rattle.line_search.specs.PinnedConcepts.{breaks_bounds, differs_from_pool, made_of_texts}
use Rattle.line_search.specs.PinnedConcepts.{marking_tree, pinned_concept_faults}
use Rattle.line_search.specs.PinnedConcepts.{pinned_concept_stage, pinned_input, pinned_made}
use Rattle.line_search.specs.RightPinned.{ConceptIsRight}
use Rattle.line_concepts.specs.Searches.{AreSound}
use Rattle.line_search.proofs.ConceptAccepted.{concept_accepted}
use Rattle.line_search.proofs.ConceptReads.{by_cells, frequency_by, marks, passes_by, reads}
use Rattle.line_search.proofs.ConceptReads.{tree_kept}
use Rattle.line_search.proofs.SoundProblems.{problem_sound}
use Rattle.line_search.proofs.Judging.{none_there as no_some}

-- ---- a tree that breaks no rule

none_ruled : (all : List TreeFault) → option_map rule_of (slice_get all 0) ≡ None → all ≡ []
none_ruled [] e = refl
none_ruled (x ∷ all) e = absurd (cc)

pub no_fault : (found : Option ConceptFault) → is_some found ≡ false → found ≡ None
no_fault None e = refl
no_fault (Some first) e = cc

pub no_rule : (problem : ProblemParts) (cost : ℕ) (text : List ℕ)
    → tree_rule problem cost (Some text) ≡ None
    → (read_faults problem text ≡ []) × (tree_faults problem (pos cost) (tree_of problem text) ≡ [])
no_rule problem cost text none = grind (arith, no_some, none_ruled)

-- ---- a concept without a fault

module _ (bundle : BundleParts) (none : pinned_concept_faults bundle ≡ []) where
  abbrev problem : ProblemParts
  problem = problem_of bundle

  abbrev given : List ℕ
  given = input_text bundle 5

  abbrev frequencies : List ℕ
  frequencies = frequencies_of problem given

  inputs : problem_faults bundle ≡ []
  inputs = front_none (problem_faults bundle) _ none

  sound : IsProblem problem
  sound = problem_sound bundle inputs

  abbrev input : Input TableRow
  input = pinned_input problem

  abbrev table : List TableRow
  table = table_of concept_columns given

  -- the rows that the rules see give the lines the same frequencies
  same : frequencies_in problem (records input table) ≡ frequencies
  same = grind (arith, by_cells, frequency_by, map-map)

  keeps_bounds : breaks_bounds problem (records input table) ≡ false
  keeps_bounds =
      let parts = parts_sound input given (back_none (problem_faults bundle) _ none) in
      let whole = (table_sound input table parts.1).2 in
      let second = (whole_rule_sound input table (differs_from_pool problem) why.PoolDiffers
      (whole_rule (breaks_bounds problem) why.NotFeasible ∷ []) whole).1 in
      (whole_rule_sound input table (breaks_bounds problem) why.NotFeasible [] second).0

  feasible : IsFeasible problem frequencies
  feasible = (test_means problem frequencies true (yes (is_feasible problem frequencies)
      (sym (ap (λ some. not (is_feasible problem some)) same) ∙ keeps_bounds))).0 refl
    where
      yes : (b : Bool) → not b ≡ false → true ≡ b
      yes true e = refl
      yes false e = absurd (cc)

  abbrev Right : Option (List Node) → Type 0
  Right tree = ConceptIsRight bundle (pinned_made problem frequencies tree).files

  alone : Right None
  alone = record {
    inputs = inputs;
    text = concept_text problem frequencies;
    tree = None;
    each = refl;
    frequencies = frequencies;
    reads = reads problem sound frequencies feasible;
    feasible = feasible;
    marked = tt;
    passes = passes_by problem sound frequencies feasible None refl;
    accepted = concept_accepted bundle inputs frequencies (concept_text problem frequencies)
        (reads problem sound frequencies feasible);
  }

  beside : (text : List ℕ) → tree_rule problem (cost_of problem frequencies) (Some text) ≡ None
      → Right (Some (tree_of problem text))
  beside text kept =
      let nodes = tree_of problem text in
      let rules = no_rule problem (cost_of problem frequencies) text kept in
      let are = faultless_tree problem text sound rules.0 in
      let written : AreSound problem nodes = record { names = are.0; limits = are.1 } in
      let certified = (no_fault_certifies problem (pos (cost_of problem frequencies)) nodes).0
      rules.1 in
      record {
        inputs = inputs;
        text = concept_text problem frequencies;
        tree = Some (tree_text problem nodes);
        each = refl;
        frequencies = frequencies;
        reads = reads problem sound frequencies feasible;
        feasible = feasible;
        marked = marks problem sound frequencies feasible nodes written certified;
        passes = passes_by problem sound frequencies feasible (Some (tree_text problem nodes))
            (tree_kept problem sound frequencies feasible nodes written certified);
        accepted = concept_accepted bundle inputs frequencies (concept_text problem frequencies)
            (reads problem sound frequencies feasible);
      }

  made_right : (text : List ℕ) → Right (marking_tree problem (cost_of problem frequencies) text)
  made_right text = grind (arith, is_some, beside, alone)

-- the law of the stage
pub pinned_right : (bundle : BundleParts) (made : Made) → pinned_concept_stage bundle ≡ Ok made
    → ConceptIsRight bundle made.files
unfolding pinned_concept_stage
pinned_right bundle made is =
    let faults = pinned_concept_faults bundle in
    let kept = made_of_texts (problem_of bundle) (input_text bundle 5) (input_text bundle 6) in
    subst (λ (made : Made). ConceptIsRight bundle made.files) (made_unless faults kept made is)
    (made_right bundle (none_unless faults kept made is) (input_text bundle 6))
