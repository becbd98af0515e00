use Rattle.std.proofs.Common.{◌∙◌, ap, sym, arith, option_map, if◌then◌else◌, Some, of_z, to_z, w64}
use Rattle.std.proofs.lemmas.Int.{to_z-of_z}
use Rattle.line_concepts.proofs.DearestLines.{no_more, rows_first, row_taken}
use Rattle.line_concepts.proofs.first_open.first_of.Goals as goal

pub loop-line-preserved-then-not-comes_first : goal.loop-line-preserved-then-not-comes_first
loop-line-preserved-then-not-comes_first c =
    row_taken c.args.problem.now.lines c.args.region.now.ranges c.loop-line.line c.loop-line.first
    c.line_row-cost.result c.loop-line.first c.requires.each c.line_row-cost.ensures _
    (to_z-of_z w64 c.line_row-cost.result.1
    (record { sfits = omega (arith, c.line_row-cost.type_inv) }))
    (sym (c.comes_first.ensures
    ∙ ap (λ first. if first then Some (c.loop-line.line, to_z w64 (of_z w64 c.line_row-cost.result.1)) else c.loop-line.first)
    c.if-not-comes_first.true))
    ∙ c.loop-line.invariant

pub loop-line-preserved : goal.loop-line-preserved
loop-line-preserved c =
    row_taken c.args.problem.now.lines c.args.region.now.ranges c.loop-line.line c.loop-line.first
    c.line_row-cost.result (Some (c.loop-line.line, to_z w64 (of_z w64 c.line_row-cost.result.1))) c.requires.each c.line_row-cost.ensures _
    (to_z-of_z w64 c.line_row-cost.result.1
    (record { sfits = omega (arith, c.line_row-cost.type_inv) }))
    (sym (c.comes_first.ensures
    ∙ ap (λ first. if first then Some (c.loop-line.line, to_z w64 (of_z w64 c.line_row-cost.result.1)) else c.loop-line.first)
    c.if-not-comes_first.false))
    ∙ c.loop-line.invariant

pub returns : goal.returns
returns c =
    c.line_of.ensures
    ∙ ap (option_map (λ first. first.0))
    (sym (no_more c.args.problem.now.lines c.args.region.now.ranges c.loop-line.line
    (omega (arith, c.loop-line-test.false, c.line_count-line-end.ensures.count)) c.loop-line.first)
    ∙ c.loop-line.invariant)
    ∙ rows_first c.args.problem.now c.args.region.now.ranges c.line_count-line-end.ensures.sound.lines_rise
