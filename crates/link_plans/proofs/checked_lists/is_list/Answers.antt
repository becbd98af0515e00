use Rattle.plan_num.proofs.Common.{◌+◌, ◌&&◌, drop, get_or, refl, ap, sym, ◌∙◌}
use Rattle.link_plans.specs.CheckedLists.{is_list}
use Rattle.link_plans.specs.LinkRows.{link_to}
use Rattle.link_plans.proofs.CheckedRows.{list_step, list_end}
use Rattle.link_plans.proofs.checked_lists.is_list.Goals as goal

pub loop-link-init : goal.loop-link-init
loop-link-init c = refl

pub loop-link-preserved : goal.loop-link-preserved
loop-link-preserved c =
    let link = get_or c.args.row.now c.loop-link.link-index (link_to 0 0) in
    c.loop-link.invariant
    ∙ list_step c.args.count c.loop-link.from c.loop-link.link-index c.args.row.now link
    c.loop-link-test.true refl
    ∙ ap (λ b. b && is_list c.args.count (link.to + 1) (drop (c.loop-link.link-index + 1)
    c.args.row.now))
    (sym c.is_next_link.ensures ∙ c.if-not-is_next_link.false)

pub returns : goal.returns
returns c = sym (c.loop-link.invariant
    ∙ list_end c.args.count c.loop-link.from c.loop-link.link-index c.args.row.now
    c.loop-link-test.false)

pub returns-then-not-is_next_link : goal.returns-then-not-is_next_link
returns-then-not-is_next_link c =
    let link = get_or c.args.row.now c.loop-link.link-index (link_to 0 0) in
    sym (c.loop-link.invariant
    ∙ list_step c.args.count c.loop-link.from c.loop-link.link-index c.args.row.now link
    c.loop-link-test.true refl
    ∙ ap (λ b. b && is_list c.args.count (link.to + 1) (drop (c.loop-link.link-index + 1)
    c.args.row.now))
    (sym c.is_next_link.ensures ∙ c.if-not-is_next_link.true))
