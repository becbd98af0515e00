use Rattle.plan_num.proofs.Common.{◌≡◌, to_z, of_z, w64, arith, get_or, pos}
use Rattle.std.proofs.lemmas.Int.{to_z-of_z}
use Rattle.tables.proofs.WriteFacts.{cells_length, in_column, column_more, no_column, line_done}
use Rattle.tables.proofs.write.push_line.Goals as goal

pub loop-column-init : goal.loop-column-init
loop-column-init c = no_column c.args.bytes.now.items

pub bounds-cells-column : goal.bounds-cells-column
bounds-cells-column c =
    omega (arith, cells_length c.args.kinds.now c.args.cells.now c.requires)

pub push_cell-requires : goal.push_cell-requires
push_cell-requires c =
    let cell = get_or c.args.cells.now c.loop-column.column (pos 0) in grind (
      arith,
      to_z,
      of_z,
      to_z-of_z,
      in_column,
    )

pub loop-column-preserved : goal.loop-column-preserved
loop-column-preserved c =
    let cell = get_or c.args.cells.now c.loop-column.column (pos 0) in
    let same : to_z w64 (of_z w64 cell) ≡ cell = grind (arith, to_z-of_z) in
    column_more c.args.kinds.now c.args.cells.now c.loop-column.column _ _
    c.args.bytes.now.items c.loop-column.bytes.items c.push_separator.new.bytes.items
    c.push_cell.new.bytes.items c.requires (omega arith) c.loop-column.invariant
    c.in_ok-push_separator.ensures (rw same at c.in_ok-push_cell.ensures)

pub returns : goal.returns
returns c =
    line_done c.args.kinds.now (record { number = 0; cells = c.args.cells.now }) c.loop-column.column
    c.args.bytes.now.items c.loop-column.bytes.items c.push.new.self.items c.requires (omega arith)
    c.loop-column.invariant c.in_ok-push.ensures.items
