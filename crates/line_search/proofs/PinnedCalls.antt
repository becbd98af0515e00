-- What the call of the stage of a planner's concept gives, step by step.
use Rattle.plan_num.proofs.Common.{arith, ◌≡◌, ℕ, true, false, not, List, [], ◌∷◌, slice_get, Some}
use Rattle.plan_num.proofs.Common.{Ok, Err, refl, ap, subst, sym, ◌∙◌, nat_eq, length, length-map}
use Rattle.plan_num.proofs.Common.{map-map, int_eq, pointwise}
use Rattle.tables.specs.declared.file_id.FileId.TheVariants as file
use Rattle.giv_files.specs.declared.made.Made.{Made}
use Rattle.giv_files.proofs.Common.{BundleParts, StageGives, input_text, stage_refused}
use Rattle.tables.specs.declared.refusal.Refusal.TheVariants as refusal
use Rattle.tables.specs.declared.refusal.StageFault.{StageFault}
use Rattle.tables.proofs.Common.{Input, Refuses, input_faults, table_faults, table_row_faults}
use Rattle.tables.proofs.Common.{whole_rule, TableRow, no_faults, refused_append, refused_whole}
use Rattle.tables.proofs.Common.{whole_rule_broken, whole_rule_kept}
use Rattle.tables.specs.declared.refusal.StageFault.TheVariants as stage
use Rattle.tables.specs.declared.row_why.RowWhy.TheVariants as why
use Rattle.line_cost_model.proofs.Common.{cost_of, is_feasible, ProblemParts}
use Rattle.line_search.specs.ConceptTables.{concept_rows, frequencies_in, row_count}
use Rattle.line_search.specs.GivenProblems.{problem_faults, problem_of}
use Rattle.line_search.specs.Judged.{frequencies_of}
use Rattle.line_search.specs.PinnedConcepts.{breaks_bounds, by_lines, differs_from_pool}
use Rattle.line_search.specs.PinnedConcepts.{marking_tree}
use Rattle.line_search.specs.PinnedConcepts.{pinned_concept_stage, pinned_input, pinned_made}
use Rattle.line_search.specs.PinnedConcepts.{places_of}
use Rattle.line_search.specs.PoolPlaces.{plain_rows}
use Rattle.line_search.proofs.ConceptReads.{by_cells, frequency_by}
use Rattle.line_search.proofs.GroupedRows.{places_count}
use Rattle.line_search.proofs.RowCounts.{concept_long, other_lists}

-- ---- a table

module _ (problem : ProblemParts) (table : List TableRow) where
  abbrev input : Input TableRow
  input = pinned_input problem

  -- the rows that the rules see give the lines the same frequencies
  same_frequencies : frequencies_in problem (plain_rows table) ≡ frequencies_in problem table
  same_frequencies = grind (arith, by_cells, frequency_by, map-map)

  module _ (kept : table_row_faults input table ≡ []) (frequencies : List ℕ)
      (are : frequencies ≡ frequencies_in problem table) where
    given : frequencies_in problem (plain_rows table) ≡ frequencies
    given = same_frequencies ∙ sym are

    pub other_rows : false
        ≡ pointwise (pointwise int_eq) (places_of (by_lines (plain_rows table)))
        (places_of (concept_rows problem frequencies))
        → slice_get (table_faults input table) 0
        ≡ Some (refusal.BadRow file.PinnedConcept 0 why.PoolDiffers)
    other_rows differ =
        refused_whole input table (stage.Refused (refusal.BadRow file.PinnedConcept 0
        why.PoolDiffers)) refl kept
        (whole_rule_broken input table (differs_from_pool problem) why.PoolDiffers
        (whole_rule (breaks_bounds problem) why.NotFeasible ∷ [])
        (ap (λ fs. not (pointwise (pointwise int_eq) (places_of (by_lines (plain_rows table)))
        (places_of (concept_rows problem fs)))) given
        ∙ ap not (sym differ)))

    pub other_count : nat_eq (length table) (row_count problem.lines) ≡ false
        → slice_get (table_faults input table) 0
        ≡ Some (refusal.BadRow file.PinnedConcept 0 why.PoolDiffers)
    other_count differ =
        grind (arith, length-map, concept_long, other_rows, other_lists, nat_eq, places_count)

    module _ (same : true
        ≡ pointwise (pointwise int_eq) (places_of (by_lines (plain_rows table)))
        (places_of (concept_rows problem frequencies))) where
      of_pool : differs_from_pool problem (plain_rows table) ≡ false
      of_pool = grind (arith, given)

      pub other_bounds : false ≡ is_feasible problem frequencies
          → slice_get (table_faults input table) 0
          ≡ Some (refusal.BadRow file.PinnedConcept 0 why.NotFeasible)
      other_bounds broken =
          let fault = stage.Refused (refusal.BadRow file.PinnedConcept 0 why.NotFeasible) in
          refused_whole input table fault refl kept
          (subst (λ faults. Refuses faults fault)
          (sym (whole_rule_kept input table (differs_from_pool problem) why.PoolDiffers
          (whole_rule (breaks_bounds problem) why.NotFeasible ∷ []) of_pool))
          (whole_rule_broken input table (breaks_bounds problem) why.NotFeasible []
          (ap (λ fs. not (is_feasible problem fs)) given ∙ ap not (sym broken))))

      pub none_at_fault : true ≡ is_feasible problem frequencies → table_faults input table ≡ []
      none_at_fault feasible =
          no_faults input table refl kept
          (whole_rule_kept input table (differs_from_pool problem) why.PoolDiffers
          (whole_rule (breaks_bounds problem) why.NotFeasible ∷ []) of_pool
          ∙ whole_rule_kept input table (breaks_bounds problem) why.NotFeasible []
          (ap (λ fs. not (is_feasible problem fs)) given ∙ ap not (sym feasible)))

-- ---- the stage

module _ (bundle : BundleParts) where
  pub problem_refused : (fault : StageFault) → Refuses (problem_faults bundle) fault
      → StageGives (pinned_concept_stage bundle) (Err fault)
  unfolding pinned_concept_stage
  problem_refused fault by = grind (arith, stage_refused, refused_append)

  module _ (problem : ProblemParts) (none : problem_faults bundle ≡ [])
      (is : problem ≡ problem_of bundle)
      (concept : List ℕ) (told : concept ≡ input_text bundle 5) where
    pub concept_refused : (fault : StageFault)
        → Refuses (input_faults (pinned_input problem) concept) fault
        → StageGives (pinned_concept_stage bundle) (Err fault)
    unfolding pinned_concept_stage
    concept_refused fault by = grind arith

    pub concept_taken : (frequencies : List ℕ) → input_faults (pinned_input problem) concept ≡ []
        → frequencies ≡ frequencies_of problem concept → (tree : List ℕ)
        → tree ≡ input_text bundle 6
        → (made : Made)
        → made ≡ pinned_made problem frequencies (marking_tree problem
        (cost_of problem frequencies) tree)
        → pinned_concept_stage bundle ≡ Ok made
    unfolding pinned_concept_stage
    concept_taken frequencies kept are tree told_tree made made_is = grind arith
