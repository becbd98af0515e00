use Rattle.plan_num.proofs.Common.{arith, ◌≡◌, ◌∙◌, ◌∷◌, ◌++◌, ◌*◌, [], length, sym, rules}
use Rattle.tables.specs.Tables.{rows_of}
use Rattle.tables.proofs.RowFacts.{wrong_count, row_refused, row_fits, row_read}
use Rattle.tables.proofs.table.Table.read_row.Goals as goal

pub returns-then-found : goal.returns-then-found
returns-then-found g c =
    let differs : length c.args.row.now.fields ≡ length c.args.kinds.now
    → ⊥ = λ e. c.if-found.true (c.len-found.ensures ∙ e ∙ c.told-kinds) in grind (
      arith,
      wrong_count,
    )

pub returns-in-Err : goal.returns-in-Err
returns-in-Err g c =
    let same : length c.args.row.now.fields ≡ length c.args.kinds.now = sym c.len-found.ensures
    ∙ c.if-found.false ∙ sym c.told-kinds in
    row_refused c.args.kinds.now c.args.row.now c.in-Err.fault c.self.inside.cells.items
    c.push_cells.new.cells.items
    c.args.self.now (rows_of g.row.C c.self.inside.numbers.items c.truncate.new.self.items) same
    c.in-Err.ensures.gives

pub invariant_of-self-else-is_err : goal.invariant_of-self-else-is_err
invariant_of-self-else-is_err g c =
    let same : length c.args.row.now.fields ≡ length c.args.kinds.now = grind arith in grind (
      arith,
      row_fits,
    )

pub returns : goal.returns
returns g c =
    let same : length c.args.row.now.fields ≡ length c.args.kinds.now = sym c.len-found.ensures
    ∙ c.if-found.false ∙ sym c.told-kinds in
    let table = c.self.inside in
    let whole : length table.cells.items ≡ length table.numbers.items *
    g.row.C = rw (← table.numbers.ok.0, ← table.cells.ok.0) c.self.invariant in
    let pushed : c.push.new.self.items ≡ table.numbers.items
    ++ c.args.row.now.number ∷ [] = search rules in
    rw pushed (row_read c.args.kinds.now c.args.row.now g.row.C table.numbers.items
    table.cells.items c.push_cells.new.cells.items c.args.self.now same c.told-kinds whole
    c.self.view_is c.in_default.ensures.gives)
