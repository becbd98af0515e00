use Rattle.plan_num.proofs.Common.{arith}
use Rattle.text_fields.proofs.ToldFacts.{none_told}
use Rattle.text_fields.proofs.text_rows.TextRows.next_row.Goals as goal

pub returns-in-Nothing : goal.returns-in-Nothing
returns-in-Nothing c =
    let over = rw c.in-Nothing.is at c.in_ok-read_line.ensures.gives in grind (arith, none_told)
