use Rattle.plan_num.proofs.Common.{arith, subst, sym, err_from_is_err_and}
use Rattle.line_walks.specs.Pools.{AreLines}
use Rattle.line_walks.proofs.PoolTables.{refused_text, refused_table, lines_read, served_lines}
use Rattle.line_walks.proofs.WholeLines.{whole_lines}
use Rattle.line_walks.proofs.pool.read_lines.Goals as goal

pub returns-in_err-table-clause-made : goal.returns-in_err-table-clause-made
returns-in_err-table-clause-made g c =
    let p = err_from_is_err_and c.from_residual.result c.from_residual.ensures.1 in grind (
      arith,
      refused_text,
    )

pub returns-in_err-lines-clause-made : goal.returns-in_err-lines-clause-made
returns-in_err-lines-clause-made g c =
    let p = err_from_is_err_and c.from_residual-in_err-lines.result
    c.from_residual-in_err-lines.ensures.1 in
    let cells = rw (c.id.ensures, c.requires.columns) at c.in_ok-table.ensures in
    rw (p.1, p.2) (refused_table c.args.kind c.args.network.now c.args.text.now
    c.in_ok-table.table cells.0 cells.1 c.in_err-lines.field-0.0 c.in_err-lines.ensures.lines)

pub invariant_of-result : goal.invariant_of-result
invariant_of-result g c =
    let cells = rw (c.id.ensures, c.requires.columns) at c.in_ok-table.ensures in
    let made = lines_read c.args.kind c.args.network.now c.args.text.now c.in_ok-table.table
    cells.0 cells.1 c.in_ok-lines.lines.items c.in_ok-lines.ensures.lines in
    served_lines c.args.kind c.args.network.now c.args.text.now c.in_ok-lines.lines.items made.1
    (whole_lines c.args.kind c.args.network.now c.args.text.now c.in_ok-lines.ensures.network
    made.0)

pub returns-clause-made : goal.returns-clause-made
returns-clause-made g c =
    let cells = rw (c.id.ensures, c.requires.columns) at c.in_ok-table.ensures in
    lines_read c.args.kind c.args.network.now c.args.text.now c.in_ok-table.table cells.0 cells.1
    c.in_ok-lines.lines.items c.in_ok-lines.ensures.lines

pub returns-clause-sound : goal.returns-clause-sound
returns-clause-sound g c =
    let cells = rw (c.id.ensures, c.requires.columns) at c.in_ok-table.ensures in
    let made = lines_read c.args.kind c.args.network.now c.args.text.now c.in_ok-table.table
    cells.0 cells.1 c.in_ok-lines.lines.items c.in_ok-lines.ensures.lines in
    subst (AreLines c.args.network.now.edges) (sym made.1) (whole_lines c.args.kind
    c.args.network.now c.args.text.now c.in_ok-lines.ensures.network made.0)
