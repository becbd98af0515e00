use Rattle.plan_num.proofs.Common.{◌≡◌, ◌∙◌, ◌++◌, List, IfOk, slice_get, sym, subst}
use Rattle.propagation.specs.declared.step.Activity.{Activity}
use Rattle.propagation.proofs.Common.{chosen_changes}
use Rattle.delay_management.specs.Judged.{reason_faults}
use Rattle.delay_management.proofs.JudgedFaults.{found_early, none_early}
use Rattle.delay_management.proofs.judge.times_fault.Goals as goal

pub returns-in-Some : goal.returns-in-Some
returns-in-Some c =
    found_early c.args.problem.now (chosen_changes c.args.problem.now c.args.kept.now) c.args.times.now
    c.earliest-earliest.result.now c.deref.result.now c.turns-turns.result.now
    c.earliest-earliest.ensures.value (c.deref.ensures.value ∙ c.in_ok-activities.ensures.activities)
    c.turns-turns.ensures.value c.requires.each
    c.args.reasons.now c.in-Some.event (sym c.in-Some.is ∙ c.in_ok-event.ensures)

pub returns : goal.returns
returns c =
    none_early c.args.problem.now (chosen_changes c.args.problem.now c.args.kept.now) c.args.times.now
    c.earliest-earliest.result.now c.deref.result.now c.turns-turns.result.now
    c.earliest-earliest.ensures.value (c.deref.ensures.value ∙ c.in_ok-activities.ensures.activities)
    c.turns-turns.ensures.value c.requires.each
    c.args.reasons.now (sym c.in-None.is ∙ c.in_ok-event.ensures) c.reasons_fault.result
    (subst (λ activities. IfOk c.reasons_fault.result
    (λ answer. (some : List Activity) → activities ≡ c.args.problem.now.rides ++ some
    → answer ≡ slice_get (reason_faults c.args.problem.now some c.args.times.now c.args.reasons.now) 0))
    (c.deref-in-None.ensures.value ∙ sym c.deref.ensures.value) c.reasons_fault.ensures)
