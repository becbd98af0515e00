use Rattle.plan_num.proofs.Common.{◌∙◌, ap, sym, subst, All}
use Rattle.tables.proofs.Common.{InColumns, faults, table_of, table_in_columns}
use Rattle.wait_choice.specs.WaitTexts.{waits_columns}
use Rattle.wait_choice.proofs.rows.wait_table.Goals as goal

pub returns-in-Ok-clause-cells : goal.returns-in-Ok-clause-cells
returns-in-Ok-clause-cells c =
    let is = c.waits_columns.ensures in
    subst (All (λ row. InColumns waits_columns row.cells))
    (sym (c.in-Ok.ensures.1 ∙ ap (λ kinds. table_of kinds c.args.text.now) is))
    (table_in_columns waits_columns c.args.text.now
    (ap (λ kinds. faults kinds c.args.text.now) (sym is) ∙ c.in-Ok.ensures.0))
