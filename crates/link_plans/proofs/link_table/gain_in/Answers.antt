use Rattle.plan_num.proofs.Common.{arith, get_or_default}
use Rattle.link_plans.specs.LinkRows.{link_to}
use Rattle.link_plans.proofs.LinkLists.{looked, looked_end}
use Rattle.link_plans.proofs.link_table.gain_in.Goals as goal

pub returns-then-place-row : goal.returns-then-place-row
returns-then-place-row c = looked c.args.row.now c.args.to c.first_from-place.result c.requires
    c.first_from-place.ensures.before c.first_from-place.ensures.after _ c.if-place-row.true
    (λ d. get_or_default c.args.row.now c.first_from-place.result (link_to 0 0) d
    c.if-place-row.true)
    c.gain_to.result c.gain_to.ensures

pub returns-else-place-row : goal.returns-else-place-row
returns-else-place-row c = looked_end c.args.row.now c.args.to c.first_from-place.result c.requires
    c.first_from-place.ensures.before c.first_from-place.ensures.after
    (omega (arith, c.if-place-row.false))
