use Rattle.plan_num.proofs.Common.{◌*◌, ◌+◌, ◌≤◌, arith}
use Rattle.std.specs.Vec.{vec_len}
use Rattle.tables.proofs.TableRows.{row_ends, row_cells}
use Rattle.tables.proofs.table.Table.row.Goals as goal
use Rattle.tables.proofs.table.Table.row.Goals.{After-deref}
use Rattle.tables.proofs.table.Table.row.Given.{Over}

-- the cells of the row are among all cells
ends : (g : Over) (c : After-deref g) → c.args.row * g.row.C + g.row.C ≤ vec_len c.self.inside.cells
ends g c =
    let table = c.self.inside in grind (arith, row_ends)

pub overflow_mul-row : goal.overflow_mul-row
overflow_mul-row g c = omega (arith, ends g c, c.deref.ensures.len, c.deref.type_inv)

pub split_at-requires : goal.split_at-requires
split_at-requires g c = omega (arith, ends g c, c.deref.ensures.len)

pub split_at-requires-2 : goal.split_at-requires-2
split_at-requires-2 g c =
    let table = c.self.inside in grind (arith, row_ends)

pub returns : goal.returns
returns g c =
    let table = c.self.inside in grind (arith, row_cells)
