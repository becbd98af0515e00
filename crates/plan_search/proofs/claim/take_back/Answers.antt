use Rattle.plan_num.proofs.Common.{get_or, length, slice_get-get_or}
use Rattle.plan_search.proofs.Flags.{left_more, left_none}
use Rattle.plan_search.proofs.claim.take_back.Goals as goal

pub loop-place-preserved : goal.loop-place-preserved
loop-place-preserved c =
    let at_step =
    slice_get-get_or c.args.order.now c.loop-place.place-index 0 c.loop-place-test.true in
    left_more (length c.args.claims.now.items) c.args.order.now c.loop-place.place-index
    (get_or c.args.order.now c.loop-place.place-index 0) c.loop-place.claims.items
    c.loop-place.flags.items c.loop-place.invariant at_step
    (c.requires.claims_are.claimed c.loop-place.place-index _ at_step)

pub returns-clause-claims : goal.returns-clause-claims
returns-clause-claims c = (left_none (length c.args.claims.now.items) c.args.order.now
    c.loop-place.place-index c.loop-place.claims.items c.loop-place.flags.items
    c.loop-place.invariant c.loop-place-test.false).0

pub returns-clause-flags : goal.returns-clause-flags
returns-clause-flags c = (left_none (length c.args.claims.now.items) c.args.order.now
    c.loop-place.place-index c.loop-place.claims.items c.loop-place.flags.items
    c.loop-place.invariant c.loop-place-test.false).1
