use Rattle.plan_num.proofs.Common.{◌≤◌, [], length, map, ap, ◌∙◌, arith, refl, err_from_is_err_and}
use Rattle.tables.proofs.Common.{records, limit_kept, no_faults, refused_rows}
use Rattle.evaluators.specs.CostedLines.{costed}
use Rattle.evaluators.specs.StatisticInputs.{concept_input, line_limit, lines_of}
use Rattle.evaluators.proofs.concept.lines_of_table.Goals as goal

pub returns-in_err-fold_rows : goal.returns-in_err-fold_rows
returns-in_err-fold_rows c =
    let input = concept_input c.args.costs.now in
    let table = c.args.table.now in
    let few : length (lines_of (records input table)) ≤ 200 =
    omega (arith, ap length c.in_ok-firsts.ensures, c.if-len-gt-MOST_LINES.false, c.len.ensures) in
    let p = err_from_is_err_and c.from_residual-in_err-fold_rows.result
    c.from_residual-in_err-fold_rows.ensures.1 in
    rw (p.1, p.2) (refused_rows input table c.in_err-fold_rows.field-0.0
    (limit_kept line_limit [] (records input table) few refl) c.in_err-fold_rows.ensures)

pub returns : goal.returns
returns c =
    let input = concept_input c.args.costs.now in
    let table = c.args.table.now in
    let firsts = c.in_ok-firsts.ensures in
    let few : length (lines_of (records input table)) ≤ 200 =
    omega (arith, ap length firsts, c.if-len-gt-MOST_LINES.false, c.len.ensures) in (
      no_faults input table (limit_kept line_limit [] (records input table) few refl)
          c.in_ok-fold_rows.ensures.0 refl,
      c.in_ok-lines.ensures ∙ ap (map (costed c.args.costs.now)) (c.deref.ensures.value ∙ firsts),
    )
