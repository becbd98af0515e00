-- How a search ends that has a solution or none, within its budget or beyond it.
use Rattle.plan_num.proofs.Common.{◌≡◌, ◌<◌, ◌⊎◌, inl, inr, ⊎_elim, ℕ, cond, nat_le, nat_lt, List}
use Rattle.plan_num.proofs.Common.{[], length, take, Option, Some, None, Result, Ok, Err, refl, ap}
use Rattle.plan_num.proofs.Common.{arith, option_map, ok_or, leb-false, leb-true, lt-ltb, ltb-true}
use Rattle.giv_files.specs.declared.made.Made.{Made}
use Rattle.tables.specs.declared.refusal.Refusal.{Refusal}
use Rattle.tables.specs.declared.refusal.Refusal.TheVariants as refusal
use Rattle.tables.specs.declared.refusal.StageFault.{StageFault}
use Rattle.tables.specs.declared.refusal.StageFault.TheVariants as fault
use Rattle.giv_files.specs.declared.stage.Stage.{Stage}
use Rattle.giv_files.specs.declared.stage.Stage.TheVariants as stage
use Rattle.giv_files.proofs.Common.{BundleParts, Fits, StageGives}
use Rattle.line_cost_model.proofs.Common.{ProblemParts}
use Rattle.line_concepts.specs.Budgets.{nodes_in}
use Rattle.line_search.specs.ConceptResults.{result_within}
use Rattle.line_search.specs.ConceptStage.{after_faults, budget_of, concept_stage, search_made}
use Rattle.line_search.specs.GivenProblems.{problem_faults, problem_of}
use Rattle.line_concepts.specs.Listings.{Entry, best_after, listing}
use Rattle.line_search.proofs.ConceptNames.{inputs_fine as concept_fine}
use Rattle.line_concepts.proofs.Lengths.{listing_bound}
use Rattle.line_search.proofs.NoConcepts.{none_told as no_concept}
use Rattle.pesp.specs.Listings.{Listing, listing as times_listed}
use Rattle.pesp_search.specs.SearchResults.{result_within as times_within, whole_result as whole_times}
use Rattle.pesp_search.specs.TimetableStage.{after_faults as after_times, budget_in, problem_in}
use Rattle.pesp_search.specs.TimetableStage.{search_made as times_made, timetable_faults}
use Rattle.pesp_search.specs.TimetableStage.{timetable_stage}
use Rattle.pesp.proofs.ListingRight.{listing_right}
use Rattle.pesp_search.proofs.TimetableEnds.{none_told as no_timetable}
use Rattle.pesp_search.proofs.TimetableMakes.{inputs_fine as times_fine}
use Rattle.pesp_search.proofs.TimetableReads.{is_problem}
use Rattle.planning_stages.specs.Planning.{stage_model}
use Rattle.planning_stages.specs.Searches.{CanBeFound, HasNoSolution, IsSpent}
use Rattle.planning_stages.proofs.Laws.{stage_laws}

-- ---- a stage answers as its function says

abbrev as_result : Result Made Refusal → Result Made StageFault
as_result (Ok made) = Ok made
as_result (Err reason) = Err (fault.Refused reason)

as_gives : (told : Result Made Refusal) → StageGives told (as_result told)
as_gives (Ok made) = refl
as_gives (Err reason) = refl

only_refused : (told : Result Made Refusal) (reason : Refusal)
    → (as_result told ≡ Err (fault.Refused reason)) ⊎ (as_result told ≡ Err fault.NoMemory)
    → told ≡ Err reason
only_refused (Ok made) reason (inl is) = absurd (cc)
only_refused (Ok made) reason (inr is) = absurd (cc)
only_refused (Err other) reason (inl is) = let same : other ≡ reason = cc in ap Err same
only_refused (Err other) reason (inr is) = absurd (cc)

-- ---- line concepts

module _ (problem : ProblemParts) (budget : ℕ) (all : List Entry) where
  abbrev Ends : Refusal → Type 0
  Ends reason = search_made problem (result_within budget all) ≡ Err reason

  by_found : (found : Option (List ℕ)) (why reason : Refusal)
      → search_made problem
      (ok_or (option_map
      (λ frequencies. record { frequencies = frequencies; tree = None; entries = length (take budget all) })
      found) why) ≡ Err reason
      → (found ≡ None) × (why ≡ reason)
  by_found None why reason is = (refl, cc)
  by_found (Some found) why reason is = absurd (cc)

  whole_unspent : (found : Option (List ℕ)) (spent : ℕ)
      → ¬ (search_made problem
      (ok_or (option_map
      (λ frequencies. record { frequencies = frequencies; tree = Some (nodes_in all); entries = length all })
      found) refusal.NoSolution) ≡ Err (refusal.Spent spent))
  whole_unspent None spent is = absurd (cc)
  whole_unspent (Some found) spent is = absurd (cc)

  spent_by : (spent : ℕ) → Ends (refusal.Spent spent)
      → (budget < length all) × (best_after None (take budget all) ≡ None)
  unfolding result_within
  spent_by spent is = grind (arith, nat_le, whole_unspent, leb-false, by_found)

  spent_ends : budget < length all → best_after None (take budget all) ≡ None → Ends (refusal.Spent budget)
  unfolding result_within
  spent_ends over none = grind (arith, nat_le, option_map, leb-true)

-- ---- timetables

module _ (budget : ℕ) (all : Listing) where
  times_unspent : (found : Option (List ℕ)) (spent : ℕ)
      → ¬ (times_made (whole_times all.entries found) ≡ Err (refusal.Spent spent))
  times_unspent None spent is = absurd (cc)
  times_unspent (Some found) spent is = absurd (cc)

  times_spent_by : (spent : ℕ) → times_made (times_within budget all) ≡ Err (refusal.Spent spent) → budget < all.entries
  unfolding times_within
  times_spent_by spent is = grind (arith, nat_lt, ltb-true, times_unspent)

  times_spent : budget < all.entries → times_made (times_within budget all) ≡ Err (refusal.Spent budget)
  unfolding times_within
  times_spent over =
      ap (λ b. times_made (cond b (Err (refusal.Spent budget)) (whole_times all.entries all.found)))
      (lt-ltb budget all.entries over)

-- ---- what the stages refuse

module _ (bundle : BundleParts) where
  abbrev told : Stage → Result Made Refusal
  told at = (stage_model at).run bundle

  concept_outcome : problem_faults bundle ≡ [] → concept_stage bundle
      ≡ search_made (problem_of bundle) (result_within (budget_of bundle) (listing (problem_of bundle)))
  unfolding concept_stage
  concept_outcome fine =
      ap (λ faults. after_faults faults
      (search_made (problem_of bundle) (result_within (budget_of bundle) (listing (problem_of bundle))))) fine

  times_outcome : timetable_faults bundle ≡ [] → timetable_stage bundle
      ≡ times_made (times_within (budget_in bundle) (times_listed (problem_in bundle)))
  unfolding timetable_stage
  times_outcome fine =
      ap (λ faults. after_times faults
      (times_made (times_within (budget_in bundle) (times_listed (problem_in bundle))))) fine

  module _ (fits : Fits bundle) where
    -- a search says that there is no solution only where there is none, within its budget
    pub ends_none : (at : Stage) → bundle.stage ≡ at → told at ≡ Err refusal.NoSolution
        → HasNoSolution at bundle
    unfolding stage_model
    ends_none stage.Concept own is =
        (no_concept bundle (Err (fault.Refused refusal.NoSolution)) is).only refl
    ends_none stage.Timetable own is =
        (no_timetable bundle own fits (Err (fault.Refused refusal.NoSolution)) is).only refl
    ends_none at own is =
        ⊎_elim (λ searches. absurd searches) (λ input. absurd input)
        ((stage_laws at).names bundle refusal.NoSolution is)

    -- and where there is none it says so
    pub none_ends : (at : Stage) → bundle.stage ≡ at → HasNoSolution at bundle
        → told at ≡ Err refusal.NoSolution
    unfolding stage_model
    none_ends stage.Concept own has =
        only_refused (concept_stage bundle) refusal.NoSolution
        ((no_concept bundle (as_result (concept_stage bundle)) (as_gives (concept_stage bundle))).always has)
    none_ends stage.Timetable own has =
        only_refused (timetable_stage bundle) refusal.NoSolution
        ((no_timetable bundle own fits (as_result (timetable_stage bundle))
        (as_gives (timetable_stage bundle))).always has)
    none_ends at own has = absurd has

    -- the same of a budget that is spent
    pub ends_spent : (at : Stage) → bundle.stage ≡ at → (entries : ℕ) → told at ≡ Err (refusal.Spent entries)
        → IsSpent at bundle
    unfolding stage_model
    ends_spent stage.Concept own entries is = grind (arith, concept_fine, spent_by, concept_outcome)
    ends_spent stage.Timetable own entries is = grind (
      arith,
      times_fine,
      times_spent_by,
      times_outcome,
    )
    ends_spent at own entries is =
        ⊎_elim (λ searches. absurd searches) (λ input. absurd input)
        ((stage_laws at).names bundle (refusal.Spent entries) is)

    pub spent_ends_so : (at : Stage) → bundle.stage ≡ at → IsSpent at bundle
        → (entries : ℕ) × (told at ≡ Err (refusal.Spent entries))
    unfolding stage_model
    spent_ends_so stage.Concept own spent = grind (arith, concept_outcome, spent_ends)
    spent_ends_so stage.Timetable own spent = grind (arith, times_outcome, times_spent)
    spent_ends_so at own spent = absurd spent

    -- neither is so where a solution exists and the budget suffices
    pub can_end : (at : Stage) → bundle.stage ≡ at → CanBeFound at bundle
        → (¬ HasNoSolution at bundle) × (¬ IsSpent at bundle)
    can_end stage.Concept own can = grind (arith, listing_bound)
    can_end stage.Timetable own can = grind (arith, listing_right, is_problem)
    can_end at own can = ((λ none. none), (λ spent. spent))
