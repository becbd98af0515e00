use Rattle.plan_num.proofs.Common.{arith, ◌∙◌, ap}
use Rattle.std.proofs.lemmas.Int.{to_z-of_z}
use mir.Syntax.{w64}
use Rattle.delay_management.specs.Judged.{first_broken_rule}
use Rattle.propagation.proofs.Common.{chosen_changes, kept_changes}
use Rattle.delay_management.specs.WaitSettings.{wait_of}
use Rattle.delay_management.proofs.JudgedFaults.{passes_by, passes_only}
use Rattle.delay_management.proofs.check.check_reasons.Goals as goal

pub returns-clause-passes : goal.returns-clause-passes
returns-clause-passes c =
    let bundle = c.args.bundle.now in grind (arith, to_z-of_z, passes_by)

pub returns-clause-only : goal.returns-clause-only
returns-clause-only c =
    let bundle = c.args.bundle.now in
    let problem = c.in_ok-problem.problem in
    let read = c.in_ok-problem.ensures.read in
    let wait = to_z-of_z w64 c.wait_of.result (record { sfits = c.wait_of.type_inv }) ∙ c.wait_of.ensures in
    let kept = ap (chosen_changes problem) c.deref.ensures.value ∙ c.in_ok-kept.ensures
    ∙ ap (kept_changes problem) wait in
    passes_only bundle c.args.times.now c.args.reasons.now read.0 c.in_ok-first_fault.field-0
    (c.in_ok-first_fault.ensures
    ∙ ap (λ kept. first_broken_rule problem kept c.args.times.now c.args.reasons.now) kept
    ∙ ap (λ p. first_broken_rule p (kept_changes p (wait_of bundle.settings)) c.args.times.now
    c.args.reasons.now) read.1)
