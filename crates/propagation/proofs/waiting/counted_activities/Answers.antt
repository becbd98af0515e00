use Rattle.plan_num.proofs.Common.{◌∙◌, ◌++◌, ap, sym, refl, arith, append-nil}
use Rattle.propagation.proofs.ChosenChanges.{chosen_done, chosen_more, chosen_passed}
use Rattle.propagation.proofs.Places.{moved}
use Rattle.propagation.proofs.waiting.counted_activities.Goals.{then-is_chosen+in_ok-push, else-is_chosen}
use Rattle.propagation.proofs.waiting.counted_activities.Goals as goal

pub loop-index-preserved : goal.loop-index-preserved
loop-index-preserved c =
    let kept = c.args.kept.now in
    let changes = c.args.changes.now in
    let i = c.loop-index.index in
    elim c.if-is_chosen.branch [
      | then-is_chosen+in_ok-push w ↦ rw w.all-is
          (moved _ _ _ _ _ _ _ (chosen_more i kept changes _ c.loop-index-test.true
          (sym c.is_chosen.ensures ∙ w.if-is_chosen.true)) w.in_ok-push.ensures.items refl c.loop-index.invariant)
      | else-is_chosen w ↦ rw w.all-is (ap (λ left. c.loop-index.all.items ++ left)
          (sym (chosen_passed i kept changes (sym c.is_chosen.ensures ∙ w.if-is_chosen.false)))
          ∙ c.loop-index.invariant)
    ]

pub returns : goal.returns
returns c =
    sym (append-nil c.loop-index.all.items)
    ∙ ap (λ left. c.loop-index.all.items ++ left)
    (sym (chosen_done c.loop-index.index c.args.kept.now c.args.changes.now (omega (arith, c.loop-index-test.false))))
    ∙ c.loop-index.invariant
