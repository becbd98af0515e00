use Rattle.plan_num.proofs.Common.{arith}
use Rattle.tables.proofs.TableRows.{length-rows, rows_wide}
use Rattle.tables.proofs.table.Table.len.Goals as goal

pub returns-clause-len : goal.returns-clause-len
returns-clause-len g c = grind (arith, length-rows)

pub returns-clause-wide : goal.returns-clause-wide
returns-clause-wide g c =
    let table = c.self.inside in grind (arith, rows_wide)
