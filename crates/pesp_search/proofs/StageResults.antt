-- What the stage of timetables gives, by what the search found.
use Rattle.plan_num.proofs.Common.{◌≡◌, ◌∙◌, ℕ, ◌+◌, ◌≤◌, nat_lt, List, [], length, All, Ok, Err}
use Rattle.plan_num.proofs.Common.{ap, sym, subst, arith}
use Rattle.giv_files.specs.declared.made.Made.{Made}
use Rattle.giv_files.proofs.Common.{BundleParts, StageGives, TakesSteps, refused_after}
use Rattle.giv_files.proofs.Common.{refused_steps}
use Rattle.tables.specs.declared.refusal.StageFault.{StageFault}
use Rattle.tables.proofs.Common.{times_p_columns, Refuses, InColumns}
use Rattle.tables.specs.declared.refusal.StageFault.TheVariants as fault
use Rattle.event_tables.proofs.Common.{periodic_time_cells}
use Rattle.pesp.specs.Timetables.{IsProblem, IsTimetable, Problem}
use Rattle.pesp.specs.declared.search.FoundTimes.{FoundTimes}
use Rattle.pesp.specs.Listings.{entries_listed, listing}
use Rattle.pesp_search.specs.SearchResults.{SearchGives, result_within}
use Rattle.pesp_search.specs.TimetableStage.{budget_in, problem_in, search_made, time_rows}
use Rattle.pesp_search.specs.TimetableStage.{timetable_faults, timetable_stage, timetable_work, times_made}
use Rattle.pesp.proofs.ListingRight.{listing_right}
use Rattle.pesp_search.proofs.TimesAccepted.{times_fit}

-- the steps of an entry each, behind one
ended_steps : (entries before tick now : ℕ) (why : StageFault) → tick ≡ before + 1
    → TakesSteps {T = FoundTimes} entries tick now (Err why)
    → TakesSteps {T = Made} (1 + entries) before now (Err why)
ended_steps entries before tick now (fault.Refused reason) is taken = omega (arith, is, taken)
ended_steps entries before tick now fault.NoMemory is taken =
    (omega (arith, is, taken.0), omega (arith, is, taken.1))

found_by : (budget : ℕ) (problem : Problem) (times : List ℕ) (entries : ℕ) → IsProblem problem
    → result_within budget (listing problem) ≡ Ok (record { times = times; entries = entries })
    → IsTimetable problem times
unfolding result_within
found_by budget problem times entries sound is = grind (arith, nat_lt, listing_right)

module _ (bundle : BundleParts) where
  pub stage_refused : (why : StageFault) → Refuses (timetable_faults bundle) why
      → StageGives (timetable_stage bundle) (Err why)
  unfolding timetable_stage
  stage_refused why h = refused_after (timetable_faults bundle) _ why h

  pub steps_refused : (before now : ℕ) (why : StageFault) → Refuses (timetable_faults bundle) why
      → now ≡ before + 1 → TakesSteps {T = Made} (timetable_work bundle) before now (Err why)
  unfolding timetable_work
  steps_refused before now why h is = refused_steps (timetable_faults bundle) _ before now why h is

  module _ (problem : Problem) (budget : ℕ) (none : timetable_faults bundle ≡ [])
      (problem_is : problem ≡ problem_in bundle) (budget_is : budget ≡ budget_in bundle) where
    stage_is : search_made (result_within budget (listing problem)) ≡ timetable_stage bundle
    unfolding timetable_stage
    stage_is = grind arith

    work_is : 1 + entries_listed budget (listing problem) ≡ timetable_work bundle
    unfolding timetable_work
    work_is = grind arith

    pub search_ended : (why : StageFault) → SearchGives (result_within budget (listing problem)) (Err why)
        → StageGives (timetable_stage bundle) (Err why)
    search_ended (fault.Refused reason) gives = sym stage_is ∙ ap search_made gives
    search_ended fault.NoMemory gives = tt

    pub steps_ended : (before tick now : ℕ) (why : StageFault) → tick ≡ before + 1
        → TakesSteps {T = FoundTimes} (entries_listed budget (listing problem)) tick now (Err why)
        → TakesSteps {T = Made} (timetable_work bundle) before now (Err why)
    steps_ended before tick now why is taken =
        subst (λ work. TakesSteps {T = Made} work before now (Err why)) work_is
        (ended_steps (entries_listed budget (listing problem)) before tick now why is taken)

    module _ (found : FoundTimes) (gives : SearchGives (result_within budget (listing problem)) (Ok found)) where
      pub found_made : (made : Made)
          → made ≡ times_made (record { times = found.times.items; entries = found.entries })
          → timetable_stage bundle ≡ Ok made
      found_made made is = sym stage_is ∙ ap search_made gives ∙ ap (λ made. Ok made) (sym is)

      pub steps_found : (before tick now : ℕ) → tick ≡ before + 1
          → now ≡ tick + entries_listed budget (listing problem) → now ≡ before + timetable_work bundle
      steps_found before tick now is taken = omega (arith, is, taken, work_is)

      pub steps_made : (before tick now : ℕ) → tick ≡ before + 1
          → now ≡ tick + entries_listed budget (listing problem)
          → TakesSteps {T = Made} (timetable_work bundle) before now (Err fault.NoMemory)
      steps_made before tick now is taken = (omega (arith, is, taken, work_is), omega (arith, is, taken, work_is))

-- what is known of times that were found
pub times_known : (budget : ℕ) (problem : Problem) (found : FoundTimes) → IsProblem problem
    → SearchGives (result_within budget (listing problem)) (Ok found)
    → (length found.times.items ≤ 4000)
    × All (λ row. InColumns times_p_columns (periodic_time_cells row)) (time_rows found.times.items)
times_known budget problem found sound gives =
    let is = found_by budget problem found.times.items found.entries sound gives in
    let few : length found.times.items ≤ 4000 = omega (arith, is.each, sound.few_events) in
    (few, times_fit found.times.items few (λ k d h. omega (arith, is.within k d h, sound.few)))
