use Rattle.plan_num.proofs.Common.{arith, ◌≡◌, ◌∷◌, ◌++◌, ◌∙◌, [], List, Ok, ap, subst, sym}
use Rattle.plan_num.proofs.Common.{append-nil, slice_index_or, flat_map, err_from_is_err_and}
use Rattle.tables.proofs.Common.{tree_columns, table_of, table_row, TableRow, no_row, InColumns}
use Rattle.tables.proofs.Common.{row_in_columns, no_mark, row_ends, mark_first, table_is}
use Rattle.tables.specs.Reading.{row_faults}
use Rattle.branch_certificate.proofs.RowsKept.{lines_first, lines_next, trees_copied}
use Rattle.branch_certificate.proofs.copy.copy_tree.Goals as goal

pub returns-in_err-rows-clause-gives : goal.returns-in_err-rows-clause-gives
returns-in_err-rows-clause-gives c = grind (arith, err_from_is_err_and, mark_first)

pub returns-in_err-rows-clause-trees : goal.returns-in_err-rows-clause-trees
returns-in_err-rows-clause-trees c =
    trees_copied c.args.bytes.now _ (returns-in_err-rows-clause-gives c)

pub rows-init : goal.rows-init
rows-init c = grind (arith, no_mark, lines_first, table_is)

pub returns-in_err-read_row-clause-gives : goal.returns-in_err-read_row-clause-gives
returns-in_err-read_row-clause-gives c =
    let next = rw c.if-branch.true at c.in_ok-next_row.ensures in
    let p = err_from_is_err_and c.from_residual-in_err-read_row.result
    c.from_residual-in_err-read_row.ensures.1 in
    rw (p.1, p.2) (row_ends tree_columns c.next_row.new.row c.next_row.new.self _ c.clear.new.self
    c.read_row.new.self (table_of tree_columns c.args.bytes.now) _
    (rw next at c.rows.invariant.cells) c.in_err-read_row.ensures)

pub returns-in_err-read_row-clause-trees : goal.returns-in_err-read_row-clause-trees
returns-in_err-read_row-clause-trees c =
    trees_copied c.args.bytes.now _ (returns-in_err-read_row-clause-gives c)

pub push_line-requires : goal.push_line-requires
push_line-requires c =
    let one : c.read_row.new.self ≡ table_row tree_columns c.next_row.new.row ∷ [] =
    c.in_ok-read_row.ensures.1
    ∙ ap (λ (rows : List TableRow). rows ++ table_row tree_columns c.next_row.new.row ∷ [])
    c.clear.ensures in
    subst (InColumns tree_columns) (sym (c.row.ensures
    ∙ ap (λ (rows : List TableRow). (slice_index_or rows 0 no_row).cells) one))
    (row_in_columns tree_columns c.next_row.new.row c.in_ok-read_row.ensures.0)

pub rows-preserved : goal.rows-preserved
rows-preserved c =
    let next = rw c.if-branch.true at c.in_ok-next_row.ensures in
    let one : c.read_row.new.self ≡ table_row tree_columns c.next_row.new.row ∷ [] =
    c.in_ok-read_row.ensures.1
    ∙ ap (λ (rows : List TableRow). rows ++ table_row tree_columns c.next_row.new.row ∷ [])
    c.clear.ensures in
    let cells = rw next at c.rows.invariant.cells in
    record {
      cells = ap (λ faults. faults ++ flat_map (row_faults tree_columns) c.next_row.new.self)
          (sym c.in_ok-read_row.ensures.0) ∙ cells;
      whole = lines_next c.rows.lines.items c.push_line.new.bytes.items _ c.row.result.now
          c.next_row.new.row c.rows.rows c.next_row.new.self c.in_ok-push_line.ensures
          (c.row.ensures
          ∙ ap (λ (rows : List TableRow). (slice_index_or rows 0 no_row).cells) one)
          next c.rows.invariant.whole;
    }

pub returns-clause-gives : goal.returns-clause-gives
returns-clause-gives c = grind (arith, append-nil)

pub returns-clause-trees : goal.returns-clause-trees
returns-clause-trees c =
    trees_copied c.args.bytes.now (Ok c.from_vec.result) (returns-clause-gives c)
