use Rattle.plan_num.proofs.Common.{sym, subst, All}
use Rattle.tables.proofs.Common.{times_p_columns, InColumns, table_in_columns}
use Rattle.pesp_search.proofs.judge.time_table.Goals as goal

pub returns-in-Ok-clause-cells : goal.returns-in-Ok-clause-cells
returns-in-Ok-clause-cells c =
    subst (All (λ row. InColumns times_p_columns row.cells)) (sym c.in-Ok.ensures.1)
    (table_in_columns times_p_columns c.args.text.now c.in-Ok.ensures.0)
