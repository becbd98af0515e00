use Rattle.plan_num.proofs.Common.{arith, sym, ◌∙◌}
use Rattle.line_search.proofs.RowCounts.{line_passed, too_few}
use Rattle.line_search.proofs.concept_table.has_row_count.Goals as goal

pub returns-then-left-own : goal.returns-then-left-own
returns-then-left-own c =
    sym (c.loop-line.invariant ∙ too_few c.args.problem.now.lines c.loop-line.line c.loop-line.left
    c.line_edges-own.result.now
    (omega (arith, c.loop-line-test.true, c.line_count-line-end.ensures.count))
    c.line_edges-own.ensures c.if-left-own.true)

pub loop-line-preserved : goal.loop-line-preserved
loop-line-preserved c =
    c.loop-line.invariant ∙ line_passed c.args.problem.now.lines c.loop-line.line c.loop-line.left
    c.line_edges-own.result.now
    (omega (arith, c.loop-line-test.true, c.line_count-line-end.ensures.count))
    c.line_edges-own.ensures c.if-left-own.false
