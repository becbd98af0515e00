use Rattle.plan_num.proofs.Common.{arith, ◌∙◌, ◌++◌, items_where_true, length-map-range_with_len}
use Rattle.propagation.proofs.WrittenBy.{told_by_ids}
use Rattle.propagation.proofs.reasons.written_reasons.Goals as goal

pub reasons_by-requires-clause-ids : goal.reasons_by-requires-clause-ids
reasons_by-requires-clause-ids c =
    let times = c.args.times.now in grind (arith, length-map-range_with_len)

pub returns : goal.returns
returns c =
    told_by_ids c.args.earliest.now c.args.times.now
    (c.args.rides.now ++ items_where_true c.args.kept.now c.args.changes.now) c.deref.result.now
    (λ reasons. reasons.items)
    (c.deref.ensures.value ∙ c.in_ok-ids.ensures) c.reasons_by.result c.reasons_by.ensures
