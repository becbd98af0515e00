use Rattle.plan_num.proofs.Common.{arith}
use Rattle.tables.proofs.TableRows.{rows_push}
use Rattle.tables.proofs.table.Table.push.Goals as goal

pub returns-clause-ok : goal.returns-clause-ok
returns-clause-ok g c =
    let table = c.self.inside in grind (arith, rows_push)
