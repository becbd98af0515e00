use Rattle.plan_num.proofs.Common.{arith}
use Rattle.text_fields.proofs.PlainRows.{plain_row}
use Rattle.text_fields.proofs.text_row.TextRow.read_line.Goals as goal

pub returns-in-Apart-clause-gives : goal.returns-in-Apart-clause-gives
returns-in-Apart-clause-gives c = grind (arith, plain_row)

pub returns-in-Stands-clause-gives : goal.returns-in-Stands-clause-gives
returns-in-Stands-clause-gives c =
    let left = rw c.in-Stands.is at c.in_ok-next.ensures.read in
    rw left (c.take_line.ensures c.next.new.self)
