use Rattle.plan_num.proofs.Common.{◌≡◌, map, ap, ◌∙◌, err_from_is_err_and}
use Rattle.tables.proofs.Common.{records, records_of, refused_cells, faults_of_table}
use Rattle.tables.proofs.Common.{UnlessFault-weaker}
use Rattle.evaluators.specs.CostedLines.{costed}
use Rattle.evaluators.specs.StatisticInputs.{concept_input, lines_of}
use Rattle.evaluators.proofs.concept.read_concept.Goals as goal

pub returns-in_err-table : goal.returns-in_err-table
returns-in_err-table c =
    let p = err_from_is_err_and c.from_residual.result c.from_residual.ensures.1 in
    rw (p.1, p.2) (refused_cells (concept_input c.args.costs.now) c.args.text.now
    c.in_err-table.field-0.0 c.in_err-table.ensures)

pub returns : goal.returns
returns c =
    let cells = c.in_ok-table.ensures in
    let costs = c.args.costs.now in
    let input = concept_input costs in
    UnlessFault-weaker _ _ (λ lines. lines.items ≡ map (costed costs)
    (lines_of (records input c.in_ok-table.table)))
    (λ lines. lines.items ≡ map (costed costs) (lines_of (records_of input c.args.text.now)))
    c.lines_of_table.result
    (faults_of_table input c.args.text.now c.in_ok-table.table cells.0 cells.1)
    (λ lines is. is ∙ ap (λ table. map (costed costs) (lines_of (records input table))) cells.1)
    c.lines_of_table.ensures
