-- What the stage of dispositions gives.
use Rattle.plan_num.proofs.Common.{◌≡◌, ◌∙◌, ℕ, ℤ, Bool, List, [], Ok, Err, ap, arith}
use Rattle.giv_files.specs.declared.made.Made.{Made}
use Rattle.giv_files.proofs.Common.{BundleParts, StageGives}
use Rattle.tables.specs.declared.refusal.StageFault.{StageFault}
use Rattle.tables.proofs.Common.{Refuses}
use Rattle.giv_files.proofs.StageCalls as calls
use Rattle.propagation.specs.declared.reason.Reason.{Reason}
use Rattle.propagation.specs.declared.step.Activity.{Activity}
use Rattle.propagation.proofs.Common.{least_times, DelayProblem, canonical_reasons, chosen_changes}
use Rattle.propagation.proofs.Common.{kept_changes}
use Rattle.delay_management.specs.DispositionStage.{disposed_of, disposition_faults, disposition_made}
use Rattle.delay_management.specs.DispositionStage.{disposition_stage, kept_in, problem_in}
use Rattle.delay_management.specs.WaitSettings.{wait_of}

pub stage_refused : (bundle : BundleParts) (fault : StageFault) → Refuses (disposition_faults bundle) fault
    → StageGives (disposition_stage bundle) (Err fault)
unfolding disposition_stage
stage_refused bundle fault refused =
    calls.stage_refused (disposition_faults bundle) (disposed_of (problem_in bundle) (kept_in bundle)) fault refused

disposed_is : (problem : DelayProblem) (kept : List Activity) (times : List ℕ) (reasons : List Reason)
    → times ≡ least_times problem kept → reasons ≡ canonical_reasons problem kept times
    → disposition_made problem times reasons ≡ disposed_of problem kept
unfolding disposed_of
disposed_is problem kept times reasons t r =
    ap (disposition_made problem times) r ∙ ap (λ times. disposition_made problem times
    (canonical_reasons problem kept times)) t

pub stage_made : (bundle : BundleParts) (problem : DelayProblem) (kept : List Bool) (wait : ℤ)
    (times : List ℕ) (reasons : List Reason) (made : Made) → disposition_faults bundle ≡ []
    → problem ≡ problem_in bundle → wait ≡ wait_of bundle.settings
    → chosen_changes problem kept ≡ kept_changes problem wait
    → times ≡ least_times problem (chosen_changes problem kept)
    → reasons ≡ canonical_reasons problem (chosen_changes problem kept) times
    → made ≡ disposition_made problem times reasons → StageGives (disposition_stage bundle) (Ok made)
unfolding disposition_stage
stage_made bundle problem kept wait times reasons made none is w keeps t r m =
    grind (arith, disposed_is)
