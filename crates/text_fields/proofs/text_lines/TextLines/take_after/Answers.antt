use Rattle.plan_num.proofs.Common.{◌∙◌, ap, arith, false, length, sym, true}
use Rattle.text_fields.proofs.GivenFacts.{passes_first}
use Rattle.text_fields.proofs.LinesRead.{given_next, looked_up}
use Rattle.text_fields.proofs.text_lines.TextLines.take_after.Goals as goal

pub returns-then-begins-clause-given : goal.returns-then-begins-clause-given
returns-then-begins-clause-given c =
    given_next _ _ _ true
    (looked_up c.args.self.now _ c.args.count _ _ _ c.requires.there c.skip.ensures.line
    c.skip.ensures.left c.unwrap_or-line.ensures)
    (sym c.begins.ensures ∙ c.if-begins.true)
    ∙ c.pass_comments.ensures.given

pub returns-then-begins-clause-less : goal.returns-then-begins-clause-less
returns-then-begins-clause-less c =
    let is = looked_up c.args.self.now _ c.args.count _ _ _ c.requires.there c.skip.ensures.line
    c.skip.ensures.left c.unwrap_or-line.ensures in
    omega (arith, ap length is, c.pass_comments.ensures.passed.lines)

pub returns-then-begins-clause-taken : goal.returns-then-begins-clause-taken
returns-then-begins-clause-taken c = (
  passes_first _ _ _ _ c.pass_comments.result
      (looked_up c.args.self.now _ c.args.count _ _ _ c.requires.there c.skip.ensures.line
      c.skip.ensures.left c.unwrap_or-line.ensures)
      (sym c.begins.ensures ∙ c.if-begins.true) c.pass_comments.ensures.passed,
  omega arith,
)

pub returns-else-begins-clause-given : goal.returns-else-begins-clause-given
returns-else-begins-clause-given c =
    given_next _ _ _ false
    (looked_up c.args.self.now _ c.args.count _ _ _ c.requires.there c.skip.ensures.line
    c.skip.ensures.left c.unwrap_or-line.ensures)
    (sym c.begins.ensures ∙ c.if-begins.false)

pub returns-else-begins-clause-less : goal.returns-else-begins-clause-less
returns-else-begins-clause-less c =
    let is = looked_up c.args.self.now _ c.args.count _ _ _ c.requires.there c.skip.ensures.line
    c.skip.ensures.left c.unwrap_or-line.ensures in
    omega (arith, ap length is)

pub returns-else-begins-clause-taken : goal.returns-else-begins-clause-taken
returns-else-begins-clause-taken c =
    looked_up c.args.self.now _ c.args.count _ _ _ c.requires.there c.skip.ensures.line
    c.skip.ensures.left c.unwrap_or-line.ensures
