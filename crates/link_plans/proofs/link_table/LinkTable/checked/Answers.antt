use Rattle.plan_num.proofs.Common.{map, ap, sym, ◌∙◌}
use Rattle.link_plans.specs.CheckedLists.{are_lists}
use Rattle.link_plans.proofs.CheckedRows.{lists_checked}
use Rattle.link_plans.proofs.link_table.LinkTable.checked.Goals as goal

pub of_rows-requires : goal.of_rows-requires
of_rows-requires c = lists_checked (map (λ row. row.items) c.args.rows.items)
    (ap (λ rows. are_lists (map (λ row. row.items) rows)) (sym c.deref.ensures.value)
    ∙ sym c.are_lists.ensures ∙ c.if-are_lists.true)
