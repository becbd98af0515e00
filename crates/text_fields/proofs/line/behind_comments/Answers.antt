use Rattle.plan_num.proofs.Common.{◌∙◌, arith, sym}
use Rattle.text_fields.proofs.GivenFacts.{given_over, given_rest, less_left, passed_empty, passed_signed}
use Rattle.text_fields.proofs.RowsLeft.{no_parts, parts_are}
use Rattle.text_fields.proofs.line.behind_comments.Goals as goal

pub returns-then-not-is_empty-clause-given : goal.returns-then-not-is_empty-clause-given
returns-then-not-is_empty-clause-given c =
    given_rest _ _ _ _ c.lines.count c.lines.invariant.passed
    (parts_are c.lines.left c.in-Some.text _ c.in-Some.is c.first_part.ensures.parts)
    (sym c.is_empty.ensures ∙ c.if-not-is_empty.true) (sym c.begins.ensures ∙ c.if-begins.false)

pub lines-preserved-then-begins : goal.lines-preserved-then-begins
lines-preserved-then-begins c = record {
  passed = passed_signed _ _ _ _ c.lines.count c.lines.invariant.passed
      (parts_are c.lines.left c.in-Some.text _ c.in-Some.is c.first_part.ensures.parts)
      (sym c.begins.ensures ∙ c.if-begins.true);
  few = less_left c.lines.left c.in-Some.text c.first_part.result.1 c.lines.count 1 _ c.in-Some.is
      c.first_part.ensures.shorter c.lines.invariant.few (omega arith);
}

pub lines-preserved : goal.lines-preserved
lines-preserved c = record {
  passed = passed_empty _ _ _ _ c.lines.count c.lines.invariant.passed
      (parts_are c.lines.left c.in-Some.text _ c.in-Some.is c.first_part.ensures.parts)
      (sym c.is_empty.ensures ∙ c.if-not-is_empty.false);
  few = omega (
    arith,
    less_left c.lines.left c.in-Some.text c.first_part.result.1 c.lines.count 0 _
        c.in-Some.is c.first_part.ensures.shorter c.lines.invariant.few (omega arith),
  );
}

pub returns-clause-given : goal.returns-clause-given
returns-clause-given c =
    given_over _ _ c.lines.count c.lines.invariant.passed (no_parts c.lines.left c.in_default.not-Some)
