-- When a search says that there is no timetable, and when its budget is never spent.
use Rattle.plan_num.proofs.Common.{◌≡◌, ◌≢◌, ◌∙◌, ℕ, ◌≤◌, cond, nat_lt, List, [], Option, Some}
use Rattle.plan_num.proofs.Common.{None, Result, Err, ap, sym, arith, le-ltb, ltb-false}
use Rattle.giv_files.specs.declared.made.Made.{Made}
use Rattle.giv_files.proofs.Common.{BundleParts, Fits, StageGives, gives_only, gives_always}
use Rattle.tables.specs.declared.refusal.Refusal.{Refusal}
use Rattle.tables.specs.declared.refusal.StageFault.{StageFault}
use Rattle.tables.specs.declared.refusal.Refusal.TheVariants as refusal
use Rattle.giv_files.specs.declared.stage.Stage.TheVariants as stage
use Rattle.pesp.specs.Timetables.{IsTimetable, Problem}
use Rattle.pesp.specs.Listings.{Listing, ListingIsRight, Tells, listing}
use Rattle.pesp_search.specs.SearchResults.{result_within, whole_result}
use Rattle.pesp_search.specs.RightTimetables.{IsNeverSpent, SaysNone}
use Rattle.pesp_search.specs.TimetableStage.{after_faults, budget_in, problem_in, search_made, timetable_faults}
use Rattle.pesp_search.specs.TimetableStage.{timetable_stage}
use Rattle.pesp.proofs.ListingRight.{listing_right}
use Rattle.pesp_search.proofs.TimetableMakes.{inputs_fine}
use Rattle.pesp_search.proofs.TimetableReads.{is_problem}

-- what a listing comes to within a budget
abbrev outcome : ℕ → Listing → Result Made Refusal
outcome budget all = search_made (result_within budget all)

module _ (budget : ℕ) (problem : Problem) (all : Listing) (tells : Tells problem all.found) where
  none_by : (found : Option (List ℕ)) → Tells problem found
      → search_made (whole_result all.entries found) ≡ Err refusal.NoSolution
      → (times : List ℕ) → ¬ IsTimetable problem times
  none_by None tells is = tells
  none_by (Some times) tells is = absurd (cc)

  none_within : outcome budget all ≡ Err refusal.NoSolution
      → ((times : List ℕ) → ¬ IsTimetable problem times) × (all.entries ≤ budget)
  unfolding result_within
  none_within is = grind (arith, nat_lt, none_by, ltb-false)

  whole_within : all.entries ≤ budget → outcome budget all ≡ search_made (whole_result all.entries all.found)
  unfolding result_within
  whole_within few = ap (λ b. search_made (cond b (Err (refusal.Spent budget)) (whole_result all.entries all.found)))
      (le-ltb budget all.entries few)

  nothing_found : ((times : List ℕ) → ¬ IsTimetable problem times) → all.found ≡ None
  nothing_found none = grind arith

  says_none : ((times : List ℕ) → ¬ IsTimetable problem times) → all.entries ≤ budget
      → outcome budget all ≡ Err refusal.NoSolution
  says_none none few =
      whole_within few ∙ ap (λ found. search_made (whole_result all.entries found)) (nothing_found none)

never_spent_by : (entries : ℕ) (found : Option (List ℕ)) (spent : ℕ)
    → search_made (whole_result entries found) ≢ Err (refusal.Spent spent)
never_spent_by entries None spent is = absurd (cc)
never_spent_by entries (Some times) spent is = absurd (cc)

module _ (bundle : BundleParts) (own : bundle.stage ≡ stage.Timetable) (fits : Fits bundle) where
  abbrev all : Listing
  all = listing (problem_in bundle)

  pub right_listing : timetable_faults bundle ≡ [] → ListingIsRight (problem_in bundle)
  right_listing none = listing_right (problem_in bundle) (is_problem bundle own fits none)

  stage_is : timetable_faults bundle ≡ [] → timetable_stage bundle ≡ outcome (budget_in bundle) all
  unfolding timetable_stage
  stage_is none = ap (λ faults. after_faults faults (outcome (budget_in bundle) all)) none

  module _ (result : Result Made StageFault) (gives : StageGives (timetable_stage bundle) result) where
    pub none_told : SaysNone bundle result
    none_told = record {
      only = λ is.
          let said = gives_only (timetable_stage bundle) result refusal.NoSolution gives is in
          let none = inputs_fine bundle refusal.NoSolution (λ h. h) said in
          let told = none_within (budget_in bundle) (problem_in bundle) all (right_listing none).tells
          (sym (stage_is none) ∙ said) in
          record { inputs = none; none = told.0; within = told.1 };
      always = λ has.
          gives_always (timetable_stage bundle) result refusal.NoSolution gives
          (stage_is has.inputs ∙ says_none (budget_in bundle) (problem_in bundle) all
          (right_listing has.inputs).tells has.none has.within);
    }

    pub spent_never : IsNeverSpent bundle result
    spent_never enough spent is =
        let said = gives_only (timetable_stage bundle) result (refusal.Spent spent) gives is in
        let none = inputs_fine bundle (refusal.Spent spent) (λ h. h) said in
        let right = right_listing none in
        let whole = whole_within (budget_in bundle) (problem_in bundle) all right.tells
        (omega (arith, right.short, enough)) in
        never_spent_by all.entries all.found spent (sym whole ∙ sym (stage_is none) ∙ said)
