use Rattle.line_search.proofs.GroupedRows.{places_sorted}
use Rattle.line_search.proofs.pool_rows.rows_by_line.Goals as goal

pub returns : goal.returns
returns c =
    places_sorted c.args.table.now c.len.ensures.wide c.in_ok-rows.rows.items
    c.sort_by_line.new.rows.items c.in_ok-rows.ensures c.in_ok-sort_by_line.ensures
