use Rattle.plan_num.proofs.Common.{refl, sym, ◌∙◌, arith, length-map, err_from_is_err_and}
use Rattle.tables.specs.declared.refusal.StageFault.TheVariants as stage
use Rattle.tables.specs.Inputs.{records}
use Rattle.tables.specs.RowsOfTables.{plain_input}
use Rattle.tables.proofs.FileFaults.{limit_refuses, few_rows, limits_refuse, rows_read, rows_within}
use Rattle.tables.proofs.Inputs.{refused_cells}
use Rattle.tables.proofs.folds.fold_file.Goals as goal

pub returns-in_err-table : goal.returns-in_err-table
returns-in_err-table g c =
    let input = plain_input c.args.file c.args.kinds.now g.F.RowFold.of_cells c.args.limit
    (g.F.RowFold.rules c.args.fold.now c.args.first) in grind (
      arith,
      err_from_is_err_and,
      refused_cells,
    )

pub returns-in-Some : goal.returns-in-Some
returns-in-Some g c =
    let input = plain_input c.args.file c.args.kinds.now g.F.RowFold.of_cells c.args.limit
    (g.F.RowFold.rules c.args.fold.now c.args.first) in
    let table = c.in_ok-table.table in
    let read = c.in_ok-table.ensures.table in
    limits_refuse input c.args.text.now table read.0 read.1 (stage.Refused c.in-Some.refusal)
    (limit_refuses c.args.limit (records input table) c.len.result c.too_many.result
    (c.len.ensures.len ∙ sym (length-map table (λ row. input.read row.cells))) c.too_many.ensures
    c.in-Some.refusal c.in-Some.is)

pub fold_rows-requires : goal.fold_rows-requires
fold_rows-requires g c = (
  omega arith,
  (
    c.requires.fits c.in_ok-table.table c.in_ok-table.ensures.cells (rows_within c.args.limit
        c.len.result _ c.too_many.result c.len.ensures.len c.too_many.ensures c.in_default.is),
    c.requires.knows,
  ),
)

pub returns : goal.returns
returns g c =
    let input = plain_input c.args.file c.args.kinds.now g.F.RowFold.of_cells c.args.limit
    (g.F.RowFold.rules c.args.fold.now c.args.first) in
    let table = c.in_ok-table.table in
    let read = c.in_ok-table.ensures.table in
    rows_read input c.args.text.now table read.0 read.1 (g.F.RowFold.Knows c.args.fold.now) refl
    (few_rows c.args.limit (records input table) c.len.result c.too_many.result (c.len.ensures.len
    ∙ sym (length-map table (λ row. input.read row.cells))) c.too_many.ensures c.in_default.is)
    c.fold_rows.result c.fold_rows.ensures
