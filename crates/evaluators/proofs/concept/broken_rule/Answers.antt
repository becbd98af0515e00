use Rattle.plan_num.proofs.Common.{sym, ap, ◌∙◌, w64, arith, find, int_eq}
use Rattle.std.proofs.lemmas.Int.{to_z-of_z}
use Rattle.evaluators.specs.declared.costed_line.CostedLine.{CostedLine}
use Rattle.evaluators.proofs.ConceptRules.{row_there, row_tells}
use Rattle.evaluators.proofs.concept.broken_rule.Goals as goal

pub unreachable-requires : goal.unreachable-requires
unreachable-requires c =
    let own = to_z-of_z w64 c.read-row.result.line (record {
      sfits = omega (arith, c.read-row.type_inv);
    }) in
    row_there c.args.costs.now c.args.table.now c.args.index c.requires.there c.args.lines.now
    c.requires.lines c.read-row.result c.read-row.ensures
    (ap (λ line. find (λ (costed : CostedLine). int_eq line costed.line) c.args.lines.now) (sym own)
    ∙ sym c.line_with.ensures ∙ c.in-None.is)

pub returns : goal.returns
returns c =
    let own = to_z-of_z w64 c.read-row.result.line (record {
      sfits = omega (arith, c.read-row.type_inv);
    }) in
    c.broken_by.ensures
    ∙ row_tells c.args.costs.now c.args.table.now c.args.index c.requires.there c.args.lines.now
    c.requires.lines c.read-row.result c.read-row.ensures c.in-Some.line
    (ap (λ line. find (λ (costed : CostedLine). int_eq line costed.line) c.args.lines.now) (sym own)
    ∙ sym c.line_with.ensures ∙ c.in-Some.is)
