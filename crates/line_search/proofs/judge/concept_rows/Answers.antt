use Rattle.plan_num.proofs.Common.{sym, subst, All}
use Rattle.tables.proofs.Common.{concept_columns, InColumns, table_in_columns}
use Rattle.line_search.proofs.judge.concept_rows.Goals as goal

pub returns-in-Ok-clause-cells : goal.returns-in-Ok-clause-cells
returns-in-Ok-clause-cells c =
    subst (All (λ row. InColumns concept_columns row.cells)) (sym c.in-Ok.ensures.1)
    (table_in_columns concept_columns c.args.text.now c.in-Ok.ensures.0)
