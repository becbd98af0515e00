use Rattle.plan_num.proofs.Common.{◌++◌, ap, sym, arith, ◌∙◌, flat_map, range_with_len}
use Rattle.plan_num.proofs.Common.{option_to_list}
use Rattle.roll_out.specs.Plans.{changes_at}
use Rattle.roll_out.proofs.Added.{added_part, range_more}
use Rattle.roll_out.proofs.ChangesAt.{change_is}
use Rattle.roll_out.proofs.changes.add_copies.Goals as goal

pub loop-earlier-preserved : goal.loop-earlier-preserved
loop-earlier-preserved c =
    let old = c.args.activities.now.items in
    let n = c.loop-earlier.earlier in
    let f = changes_at c.args.network.now c.args.copies.now c.args.activity.now in
    added_part old c.loop-earlier.activities.items c.add_copy.new.activities.items f
    (range_with_len 0 n) n c.loop-earlier.invariant
    (c.in_ok-add_copy.ensures
    ∙ ap (λ ys. c.loop-earlier.activities.items ++ ys)
    (change_is c.args.network.now c.args.copies.now c.args.activity.now n
    (option_to_list c.id_at-to.result) c.period-period.result c.time.result
    c.minutes_of-minutes.result c.period-period.ensures.period c.minutes_of-minutes.ensures.value
    c.time.ensures.value c.id_at-to.ensures c.id.result c.id.ensures))
    ∙ ap (λ some. old ++ flat_map f some) (sym (range_more 0 n n (omega arith)))
