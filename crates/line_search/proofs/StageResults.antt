-- What the stage gives, by what the search found.
use Rattle.plan_num.proofs.Common.{◌≡◌, ℕ, ◌+◌, ◌≤◌, ◌∙◌, Bool, true, false, cond, nat_le, List, []}
use Rattle.plan_num.proofs.Common.{◌∷◌, length, take, slice_get, refl, arith, ap, sym, Option, Some}
use Rattle.plan_num.proofs.Common.{None, option_map, Result, Ok, Err, ok_or, le-leb, leb-true}
use Rattle.plan_num.proofs.Common.{leb-false, take_all, length-take-le, min-eq_left, min-eq_right}
use Rattle.giv_files.specs.declared.made.Made.{Made}
use Rattle.giv_files.proofs.Common.{BundleParts, StageGives, TakesSteps, refused_after}
use Rattle.giv_files.proofs.Common.{refused_steps}
use Rattle.tables.specs.declared.refusal.Refusal.{Refusal}
use Rattle.tables.specs.declared.refusal.StageFault.{StageFault}
use Rattle.tables.proofs.Common.{Refuses}
use Rattle.tables.specs.declared.refusal.Refusal.TheVariants as refusal
use Rattle.tables.specs.declared.refusal.StageFault.TheVariants as stage
use Rattle.line_cost_model.proofs.Common.{ProblemParts}
use Rattle.line_concepts.specs.declared.node.Node.{Node}
use Rattle.line_concepts.specs.declared.best.BestConcept.{BestConcept}
use Rattle.line_concepts.specs.declared.search.Searched.{Searched}
use Rattle.line_concepts.specs.Budgets.{entries_listed, nodes_in}
use Rattle.line_search.specs.ConceptResults.{FoundConcept, result_by, result_of, result_within}
use Rattle.line_search.specs.ConceptResults.{why_none}
use Rattle.line_search.specs.ConceptStage.{after_faults, budget_of, concept_stage, concept_work}
use Rattle.line_search.specs.ConceptStage.{search_made}
use Rattle.line_search.specs.GivenProblems.{problem_faults, problem_of}
use Rattle.line_concepts.specs.Listings.{Entry, best_after, listing}
use Rattle.line_search.specs.RightConcepts.{IsWhole}
use Rattle.line_concepts.specs.RightSearches.{IsEnough}
use Rattle.line_concepts.specs.Searches.{IsResult, concept_in}
use Rattle.line_search.proofs.ConceptNames.{input_refused}
use Rattle.line_concepts.proofs.Lengths.{listing_bound}

-- ---- the concept within a budget

abbrev pub by_parts : Option (List ℕ) → Option (List Node) → ℕ → Result FoundConcept Refusal
by_parts best tree entries =
    ok_or (option_map (λ found. record { frequencies = found; tree = tree; entries = entries }) best)
    (why_none tree entries)

in_parts : (best : Option BestConcept) (tree : Option (List Node)) (entries : ℕ)
    → result_by best tree entries ≡ by_parts (concept_in best) tree entries
in_parts None tree entries = refl
in_parts (Some best) tree entries = refl

-- by the test whether the listing is within the budget
within_by : (budget : ℕ) (all : List Entry) (b : Bool) → nat_le (length all) budget ≡ b
    → by_parts (best_after None (take budget all)) (cond b (Some (nodes_in all)) None)
    (entries_listed budget all) ≡ result_within budget all
unfolding result_within
within_by budget all true is = grind (arith, leb-true, take_all, min-eq_right)
within_by budget all false is = grind (arith, leb-false, length-take-le, min-eq_left, option_map)

pub result_is : (problem : ProblemParts) (budget : ℕ) (found : Searched)
    → IsResult problem budget found → result_of found ≡ result_within budget (listing problem)
result_is problem budget found is = grind (arith, in_parts, within_by, nat_le)

-- ---- the outcome

module _ (bundle : BundleParts) where
  pub stage_refused : (fault : StageFault) → Refuses (problem_faults bundle) fault
      → StageGives (concept_stage bundle) (Err fault)
  unfolding concept_stage
  stage_refused fault h = refused_after (problem_faults bundle) _ fault h

  pub stage_found : (problem : ProblemParts) (budget : ℕ) (found : Searched)
      (result : Result Made StageFault) → problem_faults bundle ≡ [] → problem ≡ problem_of bundle
      → budget ≡ budget_of bundle → IsResult problem budget found
      → StageGives (search_made problem (result_of found)) result
      → StageGives (concept_stage bundle) result
  unfolding concept_stage
  stage_found problem budget found result none problem_is budget_is is gives =
      grind (arith, result_is)

-- ---- steps

steps_by : (work before now : ℕ) (result : Result Made StageFault) → now ≡ before + work
    → TakesSteps work before now result
steps_by work before now (Ok made) is = is
steps_by work before now (Err (stage.Refused reason)) is = is
steps_by work before now (Err stage.NoMemory) is = (omega (arith, is), omega (arith, is))

module _ (bundle : BundleParts) (before now : ℕ) where
  pub steps_refused : (fault : StageFault) → Refuses (problem_faults bundle) fault
      → now ≡ before + 1 → TakesSteps {T = Made} (concept_work bundle) before now (Err fault)
  unfolding concept_work
  steps_refused fault h is = refused_steps (problem_faults bundle) _ before now fault h is

  module _ (problem : ProblemParts) (budget : ℕ) (none : problem_faults bundle ≡ [])
      (problem_is : problem ≡ problem_of bundle) (budget_is : budget ≡ budget_of bundle) where
    work_is : 1 + entries_listed budget (listing problem) ≡ concept_work bundle
    unfolding concept_work
    work_is = grind arith

    -- no memory for an entry
    pub steps_stopped : before + 1 ≤ now
        → now ≤ before + 1 + entries_listed budget (listing problem)
        → TakesSteps {T = Made} (concept_work bundle) before now (Err stage.NoMemory)
    steps_stopped low high = grind (arith, work_is)

    pub steps_listed : (result : Result Made StageFault)
        → now ≡ before + 1 + entries_listed budget (listing problem)
        → TakesSteps (concept_work bundle) before now result
    steps_listed result is = grind (arith, work_is, steps_by)

-- ---- a budget that is enough

abbrev file_count : Result Made Refusal → ℕ
file_count (Ok made) = length made.files
file_count (Err why) = 0

whole_by : (problem : ProblemParts) (best : Option (List ℕ)) (nodes : List Node) (entries : ℕ)
    (result : Result Made StageFault)
    → StageGives (search_made problem (by_parts best (Some nodes) entries)) result → IsWhole result
whole_by problem None nodes entries (Ok made) gives = absurd (cc)
whole_by problem (Some best) nodes entries (Ok made) gives = sym (ap file_count gives)
whole_by problem None nodes entries (Err (stage.Refused (refusal.Spent spent))) gives = absurd (cc)
whole_by problem None nodes entries (Err (stage.Refused (refusal.BadRow file row why))) gives = tt
whole_by problem None nodes entries (Err (stage.Refused (refusal.TooMany what count))) gives = tt
whole_by problem None nodes entries (Err (stage.Refused refusal.NoSolution)) gives = tt
whole_by problem (Some best) nodes entries (Err (stage.Refused reason)) gives = absurd (cc)
whole_by problem best nodes entries (Err stage.NoMemory) gives = tt

whole_refused : (bundle : BundleParts) (fault : StageFault) → Refuses (problem_faults bundle) fault
    → IsWhole (Err fault)
whole_refused bundle (stage.Refused (refusal.Spent spent)) h =
    input_refused bundle (refusal.Spent spent) h
whole_refused bundle (stage.Refused (refusal.BadRow file row why)) h = tt
whole_refused bundle (stage.Refused (refusal.TooMany what count)) h = tt
whole_refused bundle (stage.Refused refusal.NoSolution) h = tt
whole_refused bundle stage.NoMemory h = tt

-- the outcome within a budget that is enough, where the inputs have no fault
whole_found : (problem : ProblemParts) (budget : ℕ) (result : Result Made StageFault)
    → IsEnough problem budget
    → StageGives (search_made problem (result_within budget (listing problem))) result → IsWhole result
unfolding result_within
whole_found problem budget result enough gives = grind (arith, listing_bound, le-leb, whole_by)

whole_after : (bundle : BundleParts) (faults : List Refusal) (outcome : Result Made Refusal)
    (result : Result Made StageFault) → faults ≡ problem_faults bundle
    → (StageGives outcome result → IsWhole result)
    → StageGives (after_faults faults outcome) result → IsWhole result
whole_after bundle [] outcome result is so gives = so gives
whole_after bundle (first ∷ more) outcome (Ok made) is so gives = absurd (cc)
whole_after bundle (first ∷ more) outcome (Err (stage.Refused reason)) is so gives =
    let same : first ≡ reason = cc in
    whole_refused bundle (stage.Refused reason)
    (sym (ap (λ faults. slice_get faults 0) is) ∙ ap (λ first. Some first) same)
whole_after bundle (first ∷ more) outcome (Err stage.NoMemory) is so gives = tt

pub whole_given : (bundle : BundleParts) (result : Result Made StageFault)
    → StageGives (concept_stage bundle) result
    → IsEnough (problem_of bundle) (budget_of bundle) → IsWhole result
unfolding concept_stage
whole_given bundle result gives enough = grind (arith, whole_after, whole_found)
