use Rattle.plan_num.proofs.Common.{◌∙◌, arith, get_or_read}
use Rattle.tables.proofs.TableRows.{row_within, number_is}
use Rattle.tables.proofs.table.Table.number.Goals as goal

pub index-requires : goal.index-requires
index-requires g c = grind (arith, row_within)

pub returns : goal.returns
returns g c =
    let table = c.self.inside in
    get_or_read table.numbers.items c.args.row _
    (row_within g.row.C table.numbers.items table.cells.items _ c.args.row c.self.view_is
    c.requires) c.index.ensures 0
    ∙ number_is g.row.C table.numbers.items table.cells.items _ c.args.row c.self.view_is c.requires
