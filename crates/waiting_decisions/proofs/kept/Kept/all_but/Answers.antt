use Rattle.plan_num.proofs.Common.{◌∙◌, take, ap, sym, false, get_or, slice_set, take_more}
use Rattle.waiting_decisions.specs.Paths.{all_but}
use Rattle.waiting_decisions.proofs.PathFacts.{none_dropped, one_dropped}
use Rattle.waiting_decisions.proofs.kept.Kept.all_but.Goals as goal

pub loop-change-init : goal.loop-change-init
loop-change-init c = c.in_ok-flags.ensures.items_if_clones_equal (λ y is. is) ∙ none_dropped c.args.count

pub loop-change-preserved : goal.loop-change-preserved
loop-change-preserved c =
    c.drop_change.ensures
    ∙ ap (λ flags. slice_set flags (get_or c.args.dropped.now c.loop-change.change-index 0) false)
    c.loop-change.invariant
    ∙ one_dropped c.args.count (take c.loop-change.change-index c.args.dropped.now)
    (get_or c.args.dropped.now c.loop-change.change-index 0)
    ∙ ap (all_but c.args.count)
    (sym (take_more c.args.dropped.now c.loop-change.change-index 0 c.loop-change-test.true))
