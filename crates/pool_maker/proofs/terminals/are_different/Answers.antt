use Rattle.plan_num.proofs.Common.{sym, ◌∙◌}
use Rattle.pool_maker.proofs.SortedIds.{all_done, found_again, one_more}
use Rattle.pool_maker.proofs.terminals.are_different.Goals as goal

pub returns-then-contains : goal.returns-then-contains
returns-then-contains c =
    found_again c.args.ids.now c.loop-place.place c.loop-place-test.true c.loop-place.invariant
    (sym c.contains.ensures.value ∙ c.if-contains.true)

pub loop-place-preserved : goal.loop-place-preserved
loop-place-preserved c =
    one_more c.args.ids.now c.loop-place.place c.loop-place-test.true c.loop-place.invariant
    (sym c.contains.ensures.value ∙ c.if-contains.false)

pub returns : goal.returns
returns c =
    all_done c.args.ids.now c.loop-place.place c.loop-place-test.false c.loop-place.invariant
