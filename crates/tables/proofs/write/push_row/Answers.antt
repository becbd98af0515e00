use Rattle.tables.proofs.WriteFacts.{row_in_columns}
use Rattle.tables.proofs.write.push_row.Goals as goal

pub push_line-requires : goal.push_line-requires
push_line-requires g c =
    rw c.row.ensures (row_in_columns c.args.kinds.now c.args.table.now c.args.row c.requires.cells
    c.requires.row_in)

pub returns : goal.returns
returns g c = rw (← c.row.ensures) c.push_line.ensures
