use Rattle.tables.proofs.TableRows.{rows_none}
use Rattle.tables.proofs.table.Table.new.Goals as goal

pub returns : goal.returns
returns g c = rw (c.new.ensures.items) (rows_none g.row.C _)
