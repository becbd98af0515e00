-- The files of a line concept are right over what the stage was given.
use Rattle.plan_num.proofs.Common.{◌≡◌, ℕ, zero, suc, ℤ, pos, ◌≤◌, true, false, cond, List, [], ◌∷◌}
use Rattle.plan_num.proofs.Common.{length, map, All, Option, Some, None, IfSome, Ok, refl, sym}
use Rattle.plan_num.proofs.Common.{subst, arith, find, get_or, option_map, take, unsigned_abs}
use Rattle.plan_num.proofs.Common.{unwrap_or, nat_le, ok_or, ⊤, AllZip, flat_map, int_eq}
use Rattle.plan_num.proofs.Common.{signed_items, cases_Bool, pointwise, pointwise_decides}
use Rattle.giv_files.specs.declared.made.Made.{Made}
use Rattle.giv_files.proofs.Common.{BundleParts, Fits, made_after}
use Rattle.tables.specs.declared.refusal.Refusal.{Refusal}
use Rattle.tables.proofs.Common.{concept_columns, tree_columns, table_of, TableRow, ReadsBack}
use Rattle.tables.proofs.Common.{plain_header, written_back, columns_written}
use Rattle.tables.specs.declared.refusal.Refusal.TheVariants as refusal
use Rattle.giv_files.specs.declared.stage.Stage.TheVariants as stage
use Rattle.line_cost_model.specs.declared.range.LineRange.{LineRange}
use Rattle.line_cost_model.proofs.Common.{IsChosen, IsFeasible, cost_of, is_feasible, IsProblem}
use Rattle.line_cost_model.proofs.Common.{ProblemParts, IsRange, IsWithin, root_of, test_means}
use Rattle.line_cost_model.proofs.Common.{root_has_each, root_sound}
use Rattle.line_concepts.specs.declared.node.Node.{Node}
use Rattle.line_concepts.specs.Certified.{Certifies}
use Rattle.branch_certificate.specs.TreeTexts.{ReadsBackAs, node_rows, tree_header, tree_text}
use Rattle.line_concepts.proofs.Certifying.{no_fault_certifies}
use Rattle.line_concepts.proofs.Sound.{certified_costs}
use Rattle.branch_certificate.proofs.WriteInside.{rows_inside}
use Rattle.branch_certificate.proofs.WriteTrees.{nodes_back}
use Rattle.line_concepts.specs.Budgets.{nodes_in}
use Rattle.line_search.specs.ConceptResults.{result_within, spent_result, whole_result}
use Rattle.line_search.specs.ConceptStage.{concept_made, concept_stage, search_made}
use Rattle.line_search.specs.ConceptTables.{concept_header, concept_rows, concept_text}
use Rattle.line_search.specs.ConceptTables.{frequencies_in, frequency_in}
use Rattle.line_search.specs.GivenProblems.{problem_faults, problem_of}
use Rattle.line_search.specs.Judged.{Marks, first_broken, same_cells, tree_rule}
use Rattle.line_concepts.specs.Listings.{best_after, listing}
use Rattle.line_search.specs.RightConcepts.{ConceptFilesAreRight}
use Rattle.line_concepts.specs.Searches.{AreSound}
use Rattle.line_concepts.proofs.ChosenFound.{best_feasible, found_is_chosen, listing_finds}
use Rattle.line_concepts.proofs.ChosenFound.{nodes_certify, some_find}
use Rattle.line_search.proofs.ConceptAccepted.{concept_accepted}
use Rattle.line_search.proofs.ConceptWritten.{concept_inside}
use Rattle.line_search.proofs.FrequenciesBack.{frequencies_back}
use Rattle.line_search.proofs.Judging.{by_tree}
use Rattle.line_search.proofs.SoundProblems.{problem_sound}
use Rattle.line_concepts.proofs.WrittenNodes.{listing_written}

few_in : (region : List LineRange) (frequencies : List ℕ) → All IsRange region
    → AllZip IsWithin frequencies region → All (λ frequency. frequency ≤ 1000) frequencies
few_in region [] ranges within k d h = absurd (omega (arith, h))
few_in [] (frequency ∷ frequencies) ranges within k d h = absurd within
few_in (range ∷ region) (frequency ∷ frequencies) ranges within zero d h =
    omega (arith, within.0.high, (ranges 0 range (omega arith)).few)
few_in (range ∷ region) (frequency ∷ frequencies) ranges within (suc k) d h =
    few_in region frequencies (λ k d h. ranges (suc k) d (omega (arith, h))) within.1 k d (omega (arith, h))

-- the frequency of a line by the cells of the rows
abbrev pub frequency_by : ℤ → List (List ℤ) → ℕ
frequency_by line rows =
    unwrap_or (option_map (λ cells. unsigned_abs (get_or cells 3 (pos 0)))
    (find (λ cells. int_eq line (get_or cells 0 (pos 0))) rows)) 0

pub by_cells : (line : ℤ) (rows : List TableRow)
    → frequency_in rows line ≡ frequency_by line (map (λ row. row.cells) rows)
by_cells line [] = refl
by_cells line (row ∷ rows) = grind (arith, cases_Bool, get_or, by_cells line rows)

module _ (problem : ProblemParts) (sound : IsProblem problem) (frequencies : List ℕ)
    (feasible : IsFeasible problem frequencies) where
  few : All (λ frequency. frequency ≤ 1000) frequencies
  few = few_in (root_of problem) frequencies (root_sound problem sound)
      (root_has_each problem sound frequencies feasible)

  pub reads : ReadsBack concept_columns (concept_rows problem frequencies) (concept_text problem frequencies)
  unfolding concept_text
  reads = written_back concept_header concept_columns (concept_rows problem frequencies) (omega arith)
      (columns_written concept_columns refl) (concept_inside problem sound frequencies few)
      (refl, plain_header concept_header refl)

  abbrev table : List TableRow
  table = table_of concept_columns (concept_text problem frequencies)

  given : frequencies ≡ frequencies_in problem table
  given = grind (arith, frequencies_back, sound, by_cells, reads)

  same : true ≡ same_cells table (concept_rows problem frequencies)
  same = sym ((pointwise_decides {E = pointwise int_eq} signed_items _ _).1 reads.1)

  kept : true ≡ is_feasible problem frequencies
  kept = sym ((test_means problem frequencies (is_feasible problem frequencies) refl).1 feasible)

  -- what is left is the rule of the tree
  pub passes_by : (tree : Option (List ℕ)) → tree_rule problem (cost_of problem frequencies) tree ≡ None
      → first_broken problem (concept_text problem frequencies) tree ≡ None
  passes_by tree none = grind (arith, by_tree, reads, given, same, kept)

  module _ (nodes : List Node) (written : AreSound problem nodes)
      (certified : Certifies problem (pos (cost_of problem frequencies)) nodes) where
    abbrev text : List ℕ
    text = tree_text problem nodes

    back : ReadsBackAs problem nodes (tree_text problem nodes)
    unfolding tree_text
    back =
        nodes_back problem sound nodes written.names written.limits (tree_text problem nodes)
        (written_back tree_header tree_columns (flat_map (node_rows problem) nodes) (omega arith)
        (columns_written tree_columns refl)
        (rows_inside problem sound nodes written.names written.limits)
        (refl, plain_header tree_header refl))

    pub tree_kept : tree_rule problem (cost_of problem frequencies) (Some text) ≡ None
    tree_kept = grind (arith, no_fault_certifies, back, same)

    pub marks : Marks problem frequencies text
    marks = record {
      fine = back.fine;
      certified = subst (Certifies problem (pos (cost_of problem frequencies))) (sym back.same) certified;
      cheapest = certified_costs problem (pos (cost_of problem frequencies)) nodes sound certified;
    }

-- ---- what is made

-- a tree that marks frequencies, where there is one, and what is known of it
abbrev marked_by : ProblemParts → List ℕ → Option (List Node) → Type 0
marked_by problem frequencies None = ⊤
marked_by problem frequencies (Some nodes) =
    IsChosen problem frequencies × AreSound problem nodes
    × Certifies problem (pos (cost_of problem frequencies)) nodes

module _ (bundle : BundleParts) (none : problem_faults bundle ≡ []) where
  abbrev problem : ProblemParts
  problem = problem_of bundle

  sound : IsProblem problem
  sound = problem_sound bundle none

  made_right : (frequencies : List ℕ) (tree : Option (List Node)) (entries : ℕ)
      → IsFeasible problem frequencies → marked_by problem frequencies tree
      → ConceptFilesAreRight bundle
      (concept_made problem (record { frequencies = frequencies; tree = tree; entries = entries })).files
  made_right frequencies None entries feasible marked = record {
    inputs = none;
    text = concept_text problem frequencies;
    tree = None;
    each = refl;
    frequencies = frequencies;
    reads = reads problem sound frequencies feasible;
    feasible = feasible;
    marked = tt;
    passes = passes_by problem sound frequencies feasible None refl;
    accepted = concept_accepted bundle none frequencies (concept_text problem frequencies)
        (reads problem sound frequencies feasible);
  }
  made_right frequencies (Some nodes) entries feasible marked = record {
    inputs = none;
    text = concept_text problem frequencies;
    tree = Some (tree_text problem nodes);
    each = refl;
    frequencies = frequencies;
    reads = reads problem sound frequencies feasible;
    feasible = feasible;
    marked = record {
      chosen = marked.0;
      marks = marks problem sound frequencies feasible nodes marked.1 marked.2;
    };
    passes = grind (arith, passes_by, sound, tree_kept);
    accepted = concept_accepted bundle none frequencies (concept_text problem frequencies)
        (reads problem sound frequencies feasible);
  }

  abbrev IsRight : Made → Type 0
  IsRight made = ConceptFilesAreRight bundle made.files

  -- by the concept that some entries find
  by_found : (tree : Option (List Node)) (entries : ℕ) (found : Option (List ℕ)) (why : Refusal)
      → IfSome found (IsFeasible problem) → IfSome found (λ frequencies. marked_by problem frequencies tree)
      → (made : Made)
      → search_made problem (ok_or (option_map (λ frequencies.
      record { frequencies = frequencies; tree = tree; entries = entries }) found) why) ≡ Ok made
      → IsRight made
  by_found tree entries None why feasible marked made is = absurd (cc)
  by_found tree entries (Some frequencies) why feasible marked made is =
      let same : concept_made problem
      (record { frequencies = frequencies; tree = tree; entries = entries }) ≡ made = cc in
      subst IsRight same (made_right frequencies tree entries feasible marked)

  marked_found : (found : Option (List ℕ)) → best_after None (listing problem) ≡ found
      → IfSome found (λ frequencies. marked_by problem frequencies (Some (nodes_in (listing problem))))
  marked_found None is = tt
  marked_found (Some frequencies) is =
      let own : marked_by problem frequencies (Some (nodes_in (listing problem))) = (
        found_is_chosen problem sound frequencies is,
        listing_written problem sound,
        nodes_certify problem sound frequencies is,
      ) in grind arith

  unmarked : (found : Option (List ℕ)) → IfSome found (λ frequencies. marked_by problem frequencies None)
  unmarked None = tt
  unmarked (Some frequencies) = let own : marked_by problem frequencies None = tt in own

  result_right : (budget : ℕ) (made : Made)
      → search_made problem (result_within budget (listing problem)) ≡ Ok made → IsRight made
  unfolding result_within
  result_right budget made is =
      let all = listing problem in
      let finds = listing_finds problem in
      elim (nat_le (length all) budget) as
      (λ b. search_made problem (cond b (whole_result all) (spent_result budget all)) ≡ Ok made
      → IsRight made) [
        | true ↦ by_found (Some (nodes_in all)) (length all) (best_after None all) refusal.NoSolution
            (best_feasible problem None all tt finds) (marked_found (best_after None all) refl) made
        | false ↦ by_found None (length (take budget all)) (best_after None (take budget all))
            (refusal.Spent budget)
            (best_feasible problem None (take budget all) tt (some_find problem budget all finds))
            (unmarked (best_after None (take budget all))) made
      ] is

-- what the stage makes is right
pub concept_is_right : (bundle : BundleParts) (made : Made) → bundle.stage ≡ stage.Concept
    → Fits bundle → concept_stage bundle ≡ Ok made → ConceptFilesAreRight bundle made.files
unfolding concept_stage
concept_is_right bundle made same fits is = grind (arith, made_after, result_right)
