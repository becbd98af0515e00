use Rattle.plan_num.proofs.Common.{◌≡◌, ◌∙◌, subst, IfOk, to_z, of_z}
use Rattle.std.proofs.lemmas.Int.{to_z-of_z}
use mir.Syntax.{w64}
use Rattle.propagation.specs.Waiting.{chosen_changes, kept_changes}
use Rattle.propagation.proofs.ChosenChanges.{kept_told}
use Rattle.propagation.proofs.waiting.waiting_changes.Goals as goal

pub returns : goal.returns
returns c =
    subst (λ wait. IfOk c.kept_by.result (λ kept. chosen_changes c.args.problem.now kept.items
    ≡ kept_changes c.args.problem.now wait))
    (to_z-of_z w64 c.args.wait c.ranges.wait)
    (kept_told (λ kept. kept.items) c.args.problem.now
    (to_z w64 (of_z w64 c.args.wait)) c.events.result.now c.changes.result.now c.deref.result.now
    c.events.ensures.value c.changes.ensures.value
    (c.deref.ensures.value ∙ c.in_ok-alone.ensures.times) c.kept_by.result c.kept_by.ensures)
