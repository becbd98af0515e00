-- What the choice of a waiting decision gives, exit by exit.
use Rattle.plan_num.proofs.Common.{◌≡◌, ◌∙◌, ℕ, ◌+◌, ◌≤◌, List, [], ◌∷◌, slice_get, Option, Some}
use Rattle.plan_num.proofs.Common.{None, Err, ap, sym, subst, arith, IsSome}
use Rattle.tables.specs.declared.refusal.Refusal.{Refusal}
use Rattle.tables.specs.declared.refusal.StageFault.{StageFault}
use Rattle.tables.proofs.Common.{Refuses, UnlessFault, or_else}
use Rattle.tables.specs.declared.refusal.StageFault.TheVariants as fault
use Rattle.giv_files.proofs.Common.{BundleParts, TakesSteps}
use Rattle.delay_management.specs.DispositionStage.{disposition_faults, problem_in}
use Rattle.propagation.proofs.Common.{DelayProblem}
use Rattle.waiting_decisions.specs.declared.waits.Waits.{Waits}
use Rattle.waiting_decisions.specs.Budgets.{FindsSome, IsEnough, entries_listed, waits_within}
use Rattle.wait_choice.specs.ChoiceStage.{IsUnspent, IsWhole, listing_in, outcome_of, spent_by, waits_in}
use Rattle.wait_choice.specs.ChoiceStage.{waits_refusals, waits_work, work_after}
use Rattle.waiting_decisions.specs.Listings.{listing}
use Rattle.waiting_decisions.proofs.Right.{enough_finds, finds_within, whole_marked}

-- ---- the inputs are at fault

refuses_first : (faults others : List Refusal) (why : StageFault) → Refuses faults why
    → Refuses (or_else faults others) why
refuses_first faults others fault.NoMemory refused = tt
refuses_first [] others (fault.Refused first) refused = absurd (cc)
refuses_first (one ∷ more) others (fault.Refused first) refused = refused

one_step : (faults : List Refusal) (entries before now : ℕ) (why : StageFault) → Refuses faults why → now ≡ before + 1
    → TakesSteps {T = Waits} (work_after faults entries) before now (Err why)
one_step faults entries before now fault.NoMemory refused is = by faults
  where
    by : (faults : List Refusal) → (before ≤ now) × (now ≤ before + work_after faults entries)
    by [] = (omega (arith, is), omega (arith, is))
    by (one ∷ more) = (omega (arith, is), omega (arith, is))
one_step [] entries before now (fault.Refused first) refused is = absurd (cc)
one_step (one ∷ more) entries before now (fault.Refused first) refused is = is

module _ (bundle : BundleParts) (penalty budget : ℕ) where
  pub inputs_refused : (why : StageFault) → Refuses (disposition_faults bundle) why
      → Refuses (waits_refusals bundle penalty budget) why
  unfolding waits_refusals
  inputs_refused why refused =
      refuses_first (disposition_faults bundle) (spent_by budget (waits_in bundle penalty budget)) why refused

  pub inputs_steps : (before now : ℕ) (why : StageFault) → Refuses (disposition_faults bundle) why → now ≡ before + 1
      → TakesSteps {T = Waits} (waits_work bundle penalty budget) before now (Err why)
  unfolding waits_work
  inputs_steps before now why refused is =
      one_step (disposition_faults bundle) (entries_listed budget (listing_in bundle penalty)) before now why refused is

  -- ---- memory is refused

  pub few_steps : (before now : ℕ) → disposition_faults bundle ≡ [] → before + 1 ≤ now
      → now ≤ (before + 1) + entries_listed budget (listing_in bundle penalty)
      → TakesSteps {T = Waits} (waits_work bundle penalty budget) before now (Err fault.NoMemory)
  unfolding waits_work
  few_steps before now none least most = grind arith

  -- ---- the search ends

  module _ (problem : DelayProblem) (none : disposition_faults bundle ≡ []) (is : problem ≡ problem_in bundle)
      (result : Option Waits) (found : result ≡ waits_within budget (listing problem penalty)) where
    here : result ≡ waits_in bundle penalty budget
    here = found ∙ ap (λ p. waits_within budget (listing p penalty)) is

    refusals : waits_refusals bundle penalty budget ≡ spent_by budget result
    unfolding waits_refusals
    refusals = grind arith

    pub end_chosen : UnlessFault (waits_refusals bundle penalty budget)
        (λ waits. waits_in bundle penalty budget ≡ Some waits) (outcome_of budget result)
    end_chosen =
        by result refusals here
      where
        by : (result : Option Waits) → waits_refusals bundle penalty budget ≡ spent_by budget result
            → result ≡ waits_in bundle penalty budget
            → UnlessFault (waits_refusals bundle penalty budget)
            (λ waits. waits_in bundle penalty budget ≡ Some waits) (outcome_of budget result)
        by None refused same = ap (λ all. slice_get all 0) refused
        by (Some waits) refused same = (refused, sym same)

    pub end_finds : FindsSome (problem_in bundle) budget → IsUnspent (outcome_of budget result)
    end_finds enough = by result (subst IsSome (sym here) (finds_within (problem_in bundle) penalty budget enough))
      where
        by : (result : Option Waits) → IsSome result → IsUnspent (outcome_of budget result)
        by None some = absurd (cc)
        by (Some waits) some = tt

    pub end_whole : IsEnough (problem_in bundle) budget → IsWhole (outcome_of budget result)
    end_whole enough =
        by result here (subst IsSome (sym here) (finds_within (problem_in bundle) penalty budget
        (enough_finds (problem_in bundle) budget enough)))
      where
        by : (result : Option Waits) → result ≡ waits_in bundle penalty budget → IsSome result
            → IsWhole (outcome_of budget result)
        by None same some = absurd (cc)
        by (Some waits) same some = whole_marked (problem_in bundle) penalty budget waits enough (sym same)

    pub end_steps : (before now : ℕ) → now ≡ (before + 1) + entries_listed budget (listing problem penalty)
        → TakesSteps (waits_work bundle penalty budget) before now (outcome_of budget result)
    unfolding waits_work
    end_steps before now all =
        by result (subst (λ faults. now ≡ before + work_after faults
        (entries_listed budget (listing_in bundle penalty))) (sym none)
        (omega (arith, all, ap (λ p. entries_listed budget (listing p penalty)) is)))
      where
        by : (result : Option Waits) → now ≡ before + work_after (disposition_faults bundle)
            (entries_listed budget (listing_in bundle penalty))
            → TakesSteps (work_after (disposition_faults bundle)
            (entries_listed budget (listing_in bundle penalty))) before now (outcome_of budget result)
        by None same = same
        by (Some waits) same = same
