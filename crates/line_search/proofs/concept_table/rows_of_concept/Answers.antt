use Rattle.plan_num.proofs.Common.{sym, ◌∙◌, arith}
use Rattle.line_search.proofs.ConceptRows.{lines_more, lines_whole}
use Rattle.line_search.proofs.concept_table.rows_of_concept.Goals as goal

pub loop-line-preserved : goal.loop-line-preserved
loop-line-preserved c =
    lines_more c.args.problem.now c.args.frequencies.now c.loop-line.line c.push_rows.new.table
    c.requires (omega (arith, c.loop-line-test.true, c.line_count-line-end.ensures.count))
    (rw (sym c.loop-line.invariant) c.in_ok-push_rows.ensures)

pub returns : goal.returns
returns c =
    c.loop-line.invariant ∙ lines_whole c.args.problem.now c.args.frequencies.now c.loop-line.line
    c.requires (omega (arith, c.loop-line-test.false, c.line_count-line-end.ensures.count))
