use Rattle.plan_num.proofs.Common.{◌+◌, ◌&&◌, drop, map, refl, ap, sym, ◌∙◌, list_all}
use Rattle.link_plans.specs.CheckedLists.{is_list}
use Rattle.link_plans.proofs.CheckedRows.{lists_step, lists_end}
use Rattle.link_plans.proofs.checked_lists.all_lists.Goals as goal

pub loop-row-init : goal.loop-row-init
loop-row-init c = refl

pub loop-row-preserved : goal.loop-row-preserved
loop-row-preserved c =
    let p = is_list c.args.count 0 in
    c.loop-row.invariant
    ∙ lists_step p (λ row. row.items) c.args.rows.now c.loop-row.row-index c.row-item.result
    c.loop-row-test.true c.row-item.is
    ∙ ap (λ b. b && list_all p (map (λ row. row.items) (drop (c.loop-row.row-index + 1)
    c.args.rows.now)))
    (ap p (sym c.deref.ensures.value) ∙ sym c.is_list.ensures ∙ c.if-not-is_list.false)

pub returns : goal.returns
returns c = sym (c.loop-row.invariant
    ∙ lists_end (is_list c.args.count 0) (λ row. row.items) c.args.rows.now c.loop-row.row-index
    c.loop-row-test.false)

pub returns-then-not-is_list : goal.returns-then-not-is_list
returns-then-not-is_list c =
    let p = is_list c.args.count 0 in
    sym (c.loop-row.invariant
    ∙ lists_step p (λ row. row.items) c.args.rows.now c.loop-row.row-index c.row-item.result
    c.loop-row-test.true c.row-item.is
    ∙ ap (λ b. b && list_all p (map (λ row. row.items) (drop (c.loop-row.row-index + 1)
    c.args.rows.now)))
    (ap p (sym c.deref.ensures.value) ∙ sym c.is_list.ensures ∙ c.if-not-is_list.true))
