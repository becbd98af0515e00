use Rattle.plan_num.proofs.Common.{ap, sym, ◌∙◌, arith, to_z, of_z, w64}
use Rattle.std.proofs.lemmas.Int.{to_z-of_z}
use Rattle.line_search.specs.ConceptTables.{frequency_in}
use Rattle.line_search.proofs.FirstRows.{first_behind, first_is, no_first}
use Rattle.line_search.proofs.frequencies.line_frequency.Goals as goal

pub returns-then-is_of_line-clause-read : goal.returns-then-is_of_line-clause-read
returns-then-is_of_line-clause-read c =
    let id = to_z w64 (of_z w64 c.args.id) in grind (arith, first_is, to_z-of_z)

pub loop-row-preserved : goal.loop-row-preserved
loop-row-preserved c =
    c.loop-row.invariant ∙ first_behind (to_z w64 (of_z w64 c.args.id)) c.args.table.now
    c.loop-row.row (omega (arith, c.loop-row-test.true, c.len-row-end.ensures.len))
    (sym c.if-is_of_line.false ∙ c.is_of_line.ensures)

pub returns-clause-read : goal.returns-clause-read
returns-clause-read c =
    sym (no_first (to_z w64 (of_z w64 c.args.id)) c.args.table.now c.loop-row.row
    (omega (arith, c.loop-row-test.false, c.len-row-end.ensures.len)))
    ∙ sym c.loop-row.invariant
    ∙ ap (λ id. frequency_in c.args.table.now id) (to_z-of_z w64 c.args.id c.ranges.id)
