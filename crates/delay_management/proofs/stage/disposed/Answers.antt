use Rattle.plan_num.proofs.Common.{◌∙◌, ap, to_z, of_z, err_from_is_err_and}
use Rattle.std.proofs.lemmas.Int.{to_z-of_z}
use mir.Syntax.{w64}
use Rattle.delay_management.specs.DispositionStage.{disposition_made}
use Rattle.propagation.proofs.Common.{least_times, canonical_reasons, chosen_changes}
use Rattle.delay_management.proofs.StageResults.{stage_made, stage_refused}
use Rattle.delay_management.proofs.stage.disposed.Goals as goal

pub returns-in_err-problem : goal.returns-in_err-problem
returns-in_err-problem c =
    let p = err_from_is_err_and c.from_residual.result c.from_residual.ensures.1 in
    rw (p.1, p.2) (stage_refused c.args.bundle.now c.in_err-problem.field-0.0 c.in_err-problem.ensures.read)

pub returns : goal.returns
returns c =
    let problem = c.in_ok-problem.problem in
    let read = c.in_ok-problem.ensures.read in
    stage_made c.args.bundle.now problem c.in_ok-kept.kept.items
    (to_z w64 (of_z w64 c.wait_of.result)) c.in_ok-times.times.items
    c.in_ok-reasons.reasons.items c.in_ok-disposition_made.field-0 read.0 read.1
    (to_z-of_z w64 c.wait_of.result (record { sfits = c.wait_of.type_inv }) ∙ c.wait_of.ensures)
    c.in_ok-kept.ensures
    (c.in_ok-times.ensures.times ∙ ap (λ kept. least_times problem (chosen_changes problem kept)) c.deref.ensures.value)
    (c.in_ok-reasons.ensures.reasons ∙ (λ i. canonical_reasons problem
    (chosen_changes problem (c.deref-2.ensures.value i)) (c.deref-3.ensures.value i)))
    (c.in_ok-disposition_made.ensures ∙ (λ i. disposition_made problem (c.deref-4.ensures.value i)
    (c.deref-5.ensures.value i)))
