use Rattle.plan_num.proofs.Common.{◌≡◌, ◌∙◌, ◌<◌, ◌*◌, ◌+◌, arith, pos, get_or_read}
use Rattle.std.specs.Vec.{vec_len}
use Rattle.std.proofs.lemmas.Int.{to_z-of_z}
use Rattle.tables.specs.Tables.{cell_at}
use Rattle.tables.proofs.TableRows.{cell_within, cell_is}
use Rattle.tables.proofs.table.Table.cell.Goals as goal
use Rattle.tables.proofs.table.Table.cell.Goals.{After-self}
use Rattle.tables.proofs.table.Table.cell.Given.{Over}

-- the place of the cell is one among all cells
place_within : (g : Over) (c : After-self g) → c.args.row * g.row.C + c.args.column < vec_len c.self.inside.cells
place_within g c =
    let table = c.self.inside in grind (arith, cell_within)

pub index-requires : goal.index-requires
index-requires g c = place_within g c

pub overflow_mul-row : goal.overflow_mul-row
overflow_mul-row g c = omega (arith, place_within g c)

pub overflow_add-row : goal.overflow_add-row
overflow_add-row g c = omega (arith, place_within g c)

pub returns : goal.returns
returns g c =
    let table = c.self.inside in
    let within = cell_within g.row.C table.numbers.items table.cells.items _ c.args.row
    c.args.column _ _ c.self.invariant table.numbers.ok.0 c.self.view_is c.requires.row_in
    c.requires.column_in in
    let told : c.index.result.now ≡ cell_at c.args.self.now c.args.row c.args.column =
    get_or_read table.cells.items _ _ (omega (arith, table.cells.ok.0, within)) c.index.ensures (pos 0)
    ∙ cell_is g.row.C table.numbers.items table.cells.items _ c.args.row c.args.column
    c.self.view_is c.requires.row_in c.requires.column_in in
    grind (arith, to_z-of_z)
