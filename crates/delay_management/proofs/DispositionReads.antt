-- The disposition that is made is right over what the stage was given.
use Rattle.plan_num.proofs.Common.{filter, ◌≡◌, ◌∙◌, ℕ, ◌<◌, ◌≤◌, List, [], ◌++◌, length, map, All}
use Rattle.plan_num.proofs.Common.{Result, Ok, Err, IfOk, None, refl, sym, subst, arith}
use Rattle.plan_num.proofs.Common.{range_with_len, length-map, All-append, All-contains}
use Rattle.giv_files.specs.declared.made.Made.{Made}
use Rattle.giv_files.proofs.Common.{BundleParts, Fits, StageGives, made_unless, none_unless}
use Rattle.tables.specs.declared.refusal.StageFault.{StageFault}
use Rattle.tables.proofs.Common.{input_faults}
use Rattle.giv_files.specs.declared.stage.Stage.TheVariants as stage
use Rattle.event_tables.proofs.Common.{disposed_time_input, expanded_event_ids}
use Rattle.propagation.specs.declared.reason.Reason.{Reason}
use Rattle.propagation.specs.declared.step.Activity.{Activity}
use Rattle.propagation.specs.declared.times.TheConstants.{LATEST}
use Rattle.propagation.proofs.Common.{named_activity, canonical_reason, IsLeast, least_times}
use Rattle.propagation.proofs.Common.{AreChanges, DelayProblem, GoesForward, IsForward, minutes}
use Rattle.propagation.proofs.Common.{steps_with, is_kept, times_alone, reasons_below, back_all}
use Rattle.propagation.proofs.Common.{front_all, forward_with, reasons_prove_least}
use Rattle.propagation.proofs.Common.{disposition_is_one, kept_are_changes, least_is_one}
use Rattle.propagation.proofs.Common.{least_times_are_least, steps_fewer, least_small}
use Rattle.propagation.proofs.Common.{written_reasons_are_right}
use Rattle.delay_management.specs.InputProblems.{day_event}
use Rattle.delay_management.specs.DispositionStage.{disposed_of, disposition_faults, disposition_stage, events_in}
use Rattle.delay_management.specs.DispositionStage.{kept_in, problem_in, reasons_text, times_text}
use Rattle.propagation.specs.Reasons.{canonical_reasons}
use Rattle.delay_management.specs.Judged.{Passes, first_broken_rule}
use Rattle.delay_management.specs.RightDispositions.{DispositionIsRight}
use Rattle.propagation.specs.Waiting.{kept_changes}
use Rattle.delay_management.specs.WaitSettings.{wait_of}
use Rattle.delay_management.proofs.InputsSound.{activity_ids, are_inputs, earliest_soon, events_few, problem_forward}
use Rattle.delay_management.proofs.InputsSound.{steps_short, turnover_few}
use Rattle.delay_management.proofs.JudgedTexts.{none_told, told_by}
use Rattle.delay_management.proofs.TextsBack.{reasons_again, times_accepted, times_again}
use Rattle.delay_management.proofs.WrittenRows.{reasons_fit, times_fit}

-- changes that are kept are changes
among : (problem : DelayProblem) (bundle : BundleParts)
    → AreChanges problem (kept_changes problem (wait_of bundle.settings))
unfolding kept_changes
among problem bundle = kept_are_changes problem (is_kept problem (wait_of bundle.settings) (times_alone problem))

-- canonical reasons name ids that are not too great
named_ids : (problem : DelayProblem) (kept : List Activity) (times : List ℕ)
    → length times ≡ length problem.events
    → All (λ activity. activity.id ≤ 500000) (problem.rides ++ kept)
    → All (λ why. named_activity why ≤ 500000) (canonical_reasons problem kept times)
unfolding canonical_reasons
named_ids problem kept times each small =
    subst (λ n. All (λ why. named_activity why ≤ 500000)
    (map (canonical_reason problem kept times) (range_with_len 0 n))) each
    (reasons_below 500000 problem.earliest times (problem.rides ++ kept) small)

event_count : (bundle : BundleParts) → length (problem_in bundle).events ≡ length (events_in bundle)
unfolding problem_in
event_count bundle = length-map (events_in bundle) day_event

module _ (bundle : BundleParts) (none : disposition_faults bundle ≡ []) where
  abbrev problem : DelayProblem
  problem = problem_in bundle

  abbrev kept : List Activity
  kept = kept_in bundle

  forward : IsForward problem
  forward = problem_forward bundle (are_inputs bundle none)

  goes : All (GoesForward problem.events) (steps_with problem kept)
  goes = forward_with problem kept forward (among problem bundle)

  heads : All (λ step. step.to < length problem.events) (steps_with problem kept)
  heads k d inside = (goes k d inside).to

  -- texts that break no rule pass
  pub passing : (times_text reasons_text : List ℕ) → first_broken_rule problem kept times_text reasons_text ≡ None
      → Passes bundle times_text reasons_text
  unfolding kept_changes
  passing times_text reasons_text clean =
      let told = told_by problem kept times_text reasons_text heads clean in
      record {
        times = told.times;
        reasons = told.reasons;
        times_read = told.times_again;
        reasons_read = told.reasons_again;
        disposition = record {
          alone = times_alone problem;
          alone_least = least_times_are_least problem [] forward (λ k d within. absurd (omega (arith, within)));
          least = reasons_prove_least problem kept told.times told.reasons forward
              (among problem bundle) told.feasible told.right;
        };
        right = told.right;
      }

  -- and those that pass break none
  pub breaking_none : (times_text reasons_text : List ℕ) → Passes bundle times_text reasons_text
      → first_broken_rule problem kept times_text reasons_text ≡ None
  unfolding kept_changes
  breaking_none times_text reasons_text passes =
      let wait = wait_of bundle.settings in
      let is = passes.disposition in
      let alone : is.alone ≡ times_alone problem = least_is_one problem [] is.alone (times_alone problem) is.alone_least
      (least_times_are_least problem [] forward (λ k d within. absurd (omega (arith, within)))) in
      let least = subst (λ alone. IsLeast problem
      (filter (is_kept problem wait alone) problem.changes) passes.times) alone is.least in
      none_told problem kept times_text reasons_text (record {
        times = passes.times;
        reasons = passes.reasons;
        times_again = passes.times_read;
        reasons_again = passes.reasons_read;
        feasible = least.feasible;
        right = passes.right;
      })

  module _ (own : bundle.stage ≡ stage.Disposition) (fits : Fits bundle) where
    abbrev times : List ℕ
    times = least_times problem kept

    abbrev reasons : List Reason
    reasons = canonical_reasons problem kept times

    least : IsLeast problem kept times
    least = least_times_are_least problem kept forward (among problem bundle)

    small : All (λ time. time ≤ LATEST) times
    small =
        let are = are_inputs bundle none in
        least_small problem kept forward.each (events_few bundle are) (earliest_soon bundle are)
        (steps_fewer (λ step. minutes step ≤ 2000000000) problem kept problem.changes (among problem bundle)
        (steps_short bundle are (turnover_few bundle own fits)))
        (λ k d inside. (goes k d inside).from)

    ids : All (λ activity. activity.id ≤ 500000) (problem.rides ++ kept)
    ids =
        let all = activity_ids bundle (are_inputs bundle none) in
        let P = λ (activity : Activity). activity.id ≤ 500000 in
        All-append P problem.rides kept (front_all P problem.rides problem.changes all)
        (λ k d inside. All-contains P problem.changes _ (back_all P problem.rides problem.changes all)
        (among problem bundle k d inside))

    accepted_there : input_faults (disposed_time_input (expanded_event_ids (events_in bundle))) (times_text times) ≡ []
    accepted_there =
        let are = are_inputs bundle none in
        let long : length times ≡ length (events_in bundle) = least.feasible.each ∙ event_count bundle in
        subst (λ ids. input_faults (disposed_time_input ids) (times_text times) ≡ []) (sym are.events.numbered)
        (times_accepted (length (events_in bundle)) times long
        (times_fit times (omega (arith, long, are.events.few)) small))

    pub made_right : DispositionIsRight bundle (disposed_of problem kept)
    unfolding disposed_of
    made_right =
        let are = are_inputs bundle none in
        let long : length times ≡ length problem.events = least.feasible.each in
        let few : length times ≤ 100000 = omega (arith, long, events_few bundle are) in
        let right = written_reasons_are_right problem kept times forward (among problem bundle) least in
        let time_fit = times_fit times few small in
        let why_fit = reasons_fit reasons (omega (arith, right.each, events_few bundle are))
        (named_ids problem kept times long ids) in
        record {
          inputs = none;
          times = times;
          reasons = reasons;
          times_text = times_text times;
          reasons_text = reasons_text reasons;
          both = refl;
          disposition = (disposition_is_one problem (wait_of bundle.settings) forward).0;
          only = (disposition_is_one problem (wait_of bundle.settings) forward).1;
          written = refl;
          right = right;
          times_back = times_again times time_fit;
          reasons_back = reasons_again reasons why_fit;
          passes = none_told problem kept (times_text times) (reasons_text reasons) (record {
            times = times;
            reasons = reasons;
            times_again = times_again times time_fit;
            reasons_again = reasons_again reasons why_fit;
            feasible = least.feasible;
            right = right;
          });
          accepted = accepted_there;
        }

-- what the stage makes is right
pub disposition_is_right : (bundle : BundleParts) (made : Made) → bundle.stage ≡ stage.Disposition
    → Fits bundle → disposition_stage bundle ≡ Ok made → DispositionIsRight bundle made
unfolding disposition_stage
disposition_is_right bundle made own fits is = grind (arith, made_unless, made_right, none_unless)

-- what a call gives that meets the stage
pub right_given : (bundle : BundleParts) (result : Result Made StageFault)
    → bundle.stage ≡ stage.Disposition → Fits bundle → StageGives (disposition_stage bundle) result
    → IfOk result (DispositionIsRight bundle)
right_given bundle (Ok made) own fits given = disposition_is_right bundle made own fits given
right_given bundle (Err fault) own fits given = tt
