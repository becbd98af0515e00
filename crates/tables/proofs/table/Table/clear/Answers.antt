use Rattle.tables.proofs.TableRows.{rows_none}
use Rattle.tables.proofs.table.Table.clear.Goals as goal

pub returns : goal.returns
returns g c = rw (c.clear.ensures.items) (rows_none g.row.C _)
