use Rattle.plan_num.proofs.Common.{arith, ◌≡◌, ◌∷◌, ◌++◌, ◌+◌, ◌∙◌, List, [], ap, sym, get_or}
use Rattle.plan_num.proofs.Common.{slice_get, Some, flat_map, err_from_is_err_and}
use Rattle.tables.specs.declared.read_fault.RowFault.{RowFault}
use Rattle.tables.proofs.Common.{tree_columns, table_of, table_row, TableRow, no_row, records_all}
use Rattle.tables.proofs.Common.{rows_met, no_mark, row_ends, mark_first, table_is}
use Rattle.tables.specs.Reading.{row_faults}
use Rattle.branch_certificate.proofs.ReadLines.{by_cell, cell_refused, in_order, no_cells, nothing_read}
use Rattle.branch_certificate.proofs.ReadLines.{one_inside, row_own, row_within, rows_behind, rows_past}
use Rattle.branch_certificate.proofs.read.read_rows.Goals as goal

pub returns-in_err-rows : goal.returns-in_err-rows
returns-in_err-rows c =
    let p = err_from_is_err_and c.from_residual.result c.from_residual.ensures.1 in
    rw (p.1, p.2) (by_cell c.args.bytes.now _ _
    (mark_first tree_columns c.args.bytes.now c.in_err-rows.ensures.0
    ∙ ap (λ (first : RowFault). Some first) (sym c.in_err-rows.ensures.1)))

pub rows-init : goal.rows-init
rows-init c = record {
  i = 0;
  left = grind (arith, table_is);
  cells = grind (arith, no_mark);
  up_to = grind (arith, nothing_read);
}

pub returns-in_err-read_row : goal.returns-in_err-read_row
returns-in_err-read_row c =
    let next = rw c.if-branch.true at c.in_ok-next_row.ensures in
    let p = err_from_is_err_and c.from_residual-in_err-read_row.result
    c.from_residual-in_err-read_row.ensures.1 in
    rw (p.1, p.2) (cell_refused c.args.bytes.now _ (table_of tree_columns c.args.bytes.now) _
    (row_ends tree_columns c.next_row.new.row c.next_row.new.self _ c.clear.new.self
    c.read_row.new.self (table_of tree_columns c.args.bytes.now) _
    (rw next at c.rows.invariant.cells) c.in_err-read_row.ensures))

pub take_row-requires-clause-cells : goal.take_row-requires-clause-cells
take_row-requires-clause-cells c =
    one_inside c.next_row.new.row c.read_row.new.self c.in_ok-read_row.ensures.0
    (c.in_ok-read_row.ensures.1
    ∙ ap (λ (rows : List TableRow). rows ++ table_row tree_columns c.next_row.new.row ∷ [])
    c.clear.ensures)

pub take_row-requires-clause-order : goal.take_row-requires-clause-order
take_row-requires-clause-order c none =
    in_order c.args.ids.now (table_of tree_columns c.args.bytes.now) c.rows.invariant.i c.rows.fault
    c.rows.so_far c.rows.invariant.up_to none

pub rows-preserved : goal.rows-preserved
rows-preserved c =
    let next = rw c.if-branch.true at c.in_ok-next_row.ensures in
    let all = table_of tree_columns c.args.bytes.now in
    let i = c.rows.invariant.i in
    let row = c.next_row.new.row in
    let left = c.rows.invariant.left in
    let one : c.read_row.new.self ≡ table_row tree_columns row ∷ [] =
    c.in_ok-read_row.ensures.1
    ∙ ap (λ (rows : List TableRow). rows ++ table_row tree_columns row ∷ []) c.clear.ensures in
    let whole = rw next at c.rows.invariant.cells in
    record {
      i = i + 1;
      left = rows_behind all i row _ c.next_row.new.self left next;
      cells = ap (λ faults. faults ++ flat_map (row_faults tree_columns) c.next_row.new.self)
          (sym c.in_ok-read_row.ensures.0) ∙ whole;
      up_to = c.in_ok-fault.ensures all i (row_within all i row _ c.next_row.new.self left next)
          (row_own all i row _ c.next_row.new.self left next
          ∙ ap (λ (rows : List TableRow). get_or rows 0 no_row) (sym one))
          c.rows.invariant.up_to;
    }

pub returns-in-Some : goal.returns-in-Some
returns-in-Some c = grind (arith, slice_get, no_cells)

pub returns : goal.returns
returns c = grind (arith, rows_past, no_cells, rows_met, records_all)
