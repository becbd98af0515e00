use Rattle.plan_num.proofs.Common.{sym, subst, All}
use Rattle.tables.proofs.Common.{disposed_columns, InColumns, table_in_columns}
use Rattle.delay_management.proofs.judge.time_table.Goals as goal

pub returns-in-Ok-clause-cells : goal.returns-in-Ok-clause-cells
returns-in-Ok-clause-cells c =
    subst (All (λ row. InColumns disposed_columns row.cells)) (sym c.in-Ok.ensures.1)
    (table_in_columns disposed_columns c.args.text.now c.in-Ok.ensures.0)
