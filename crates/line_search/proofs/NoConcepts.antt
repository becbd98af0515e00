-- No solution is the answer exactly where no concept is feasible and the listing is within the budget.
use Rattle.plan_num.proofs.Common.{arith, ◌≡◌, ℕ, ◌≤◌, ◌∙◌, Bool, true, false, cond, nat_le, List}
use Rattle.plan_num.proofs.Common.{[], length, take, ap, sym, refl, Option, Some, None, IfSome}
use Rattle.plan_num.proofs.Common.{Result, Err, option_map, ok_or, le-leb}
use Rattle.giv_files.specs.declared.made.Made.{Made}
use Rattle.giv_files.proofs.Common.{BundleParts, StageGives, gives_always, gives_only}
use Rattle.tables.specs.declared.refusal.Refusal.{Refusal}
use Rattle.tables.specs.declared.refusal.StageFault.{StageFault}
use Rattle.tables.specs.declared.refusal.Refusal.TheVariants as refusal
use Rattle.line_cost_model.proofs.Common.{IsChosen, ProblemParts}
use Rattle.line_concepts.specs.Budgets.{nodes_in}
use Rattle.line_search.specs.ConceptResults.{last_found, result_within}
use Rattle.line_search.specs.ConceptStage.{budget_of, concept_stage, search_made}
use Rattle.line_search.specs.GivenProblems.{problem_faults, problem_of}
use Rattle.line_concepts.specs.Listings.{Entry, best_after, listing}
use Rattle.line_search.specs.RightConcepts.{SaysNone}
use Rattle.line_concepts.specs.RightSearches.{NoneIsFeasible, found_by}
use Rattle.line_search.proofs.ConceptNames.{inputs_fine}
use Rattle.line_search.proofs.SearchRight.{search_right}
use Rattle.line_search.proofs.StageResults.{by_parts}

abbrev no_solution : Result Made Refusal
no_solution = Err refusal.NoSolution

-- ---- what is made where nothing was found

not_spent : (problem : ProblemParts) (best : Option (List ℕ)) (budget entries : ℕ)
    → ¬ (search_made problem (ok_or (option_map (λ found. record {
      frequencies = found;
      tree = None;
      entries = entries;
    }) best) (refusal.Spent budget)) ≡ no_solution)
not_spent problem None budget entries is = absurd (cc)
not_spent problem (Some best) budget entries is = absurd (cc)

module _ (problem : ProblemParts) (budget : ℕ) (all : List Entry) where
  abbrev whole : Bool → Result Made Refusal
  whole within = search_made problem (cond within
      (by_parts (best_after None all) (Some (nodes_in all)) (length all))
      (ok_or (last_found None (take budget all)) (refusal.Spent budget)))

  only_within : (within : Bool) → nat_le (length all) budget ≡ within → whole within ≡ no_solution
      → (best_after None all ≡ None) × (length all ≤ budget)
  only_within true is none = grind arith
  only_within false is none = absurd (not_spent problem (best_after None (take budget all)) budget
      (length (take budget all)) none)

  only_none : search_made problem (result_within budget all) ≡ no_solution
      → (best_after None all ≡ None) × (length all ≤ budget)
  unfolding result_within
  only_none none = only_within (nat_le (length all) budget) refl none

  always_none : best_after None all ≡ None → length all ≤ budget
      → search_made problem (result_within budget all) ≡ no_solution
  unfolding result_within
  always_none none within = ap whole (le-leb (length all) budget within)
      ∙ ap (λ best. search_made problem (by_parts best (Some (nodes_in all)) (length all))) none

-- ---- what the stage answers

-- a chosen concept is feasible
nothing_found : (problem : ProblemParts) (found : Option (List ℕ)) → IfSome found (IsChosen problem)
    → NoneIsFeasible problem → found ≡ None
nothing_found problem None chosen none = refl
nothing_found problem (Some concept) chosen none = absurd (none concept chosen.feasible)

given_outcome : (bundle : BundleParts) → problem_faults bundle ≡ [] → concept_stage bundle
    ≡ search_made (problem_of bundle) (result_within (budget_of bundle) (listing (problem_of bundle)))
unfolding concept_stage
given_outcome bundle none = grind arith

pub none_told : (bundle : BundleParts) (result : Result Made StageFault)
    → StageGives (concept_stage bundle) result → SaysNone bundle result
none_told bundle result gives =
    let problem = problem_of bundle in
    let budget = budget_of bundle in
    record {
      only = λ is.
          let said = gives_only (concept_stage bundle) result refusal.NoSolution gives is in
          let inputs = inputs_fine bundle refusal.NoSolution (λ h. h) said in
          let parts = only_none problem budget (listing problem) (sym (given_outcome bundle inputs) ∙ said)
          in
          record {
            inputs = inputs;
            none = (search_right bundle inputs).none parts.0;
            within = parts.1;
          };
      always = λ has.
          gives_always (concept_stage bundle) result refusal.NoSolution gives
          (given_outcome bundle has.inputs ∙ always_none problem budget (listing problem)
          (nothing_found problem (found_by problem) (search_right bundle has.inputs).chosen has.none)
          has.within);
    }
