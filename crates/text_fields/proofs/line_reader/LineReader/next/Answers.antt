use Rattle.plan_num.proofs.Common.{◌+◌, arith, drop, length-drop, subst}
use Rattle.csv.specs.Records.{fields_of}
use Rattle.text_fields.specs.Told.{HasPieces}
use Rattle.text_fields.proofs.LinesRead.{after_next, apart_next, none_next, reads_next}
use Rattle.text_fields.proofs.line_reader.LineReader.next.Goals as goal

pub overflow_add-self : goal.overflow_add-self
overflow_add-self c =
    let reads = reads_next c.self.inside.lines c.self.inside.passed _ _ _
    (c.in-Ok-true.ensures _ (c.self.invariant.awaits c.in-Open.is)) c.in-Ok-true.field-0-test in
    let few = c.self.invariant.few in omega (arith, reads.within)

pub invariant_of-self : goal.invariant_of-self
invariant_of-self c =
    let reads = reads_next c.self.inside.lines c.self.inside.passed _ _ _
    (c.in-Ok-true.ensures _ (c.self.invariant.awaits c.in-Open.is)) c.in-Ok-true.field-0-test in
    record {
      within = omega (arith, reads.within);
      few = c.self.invariant.few;
      awaits = λ still. (apart_next _ _ _ _ reads (omega (arith, c.len.ensures, c.if-len-ge2.true))).1;
      over = λ never. let is = c.in-Open.is in cc;
    }

pub returns-then-len-ge2-clause-read : goal.returns-then-len-ge2-clause-read
returns-then-len-ge2-clause-read c =
    let reads = reads_next c.self.inside.lines c.self.inside.passed _ _ _
    (c.in-Ok-true.ensures _ (c.self.invariant.awaits c.in-Open.is)) c.in-Ok-true.field-0-test in
    subst (λ lines. HasPieces lines (drop (c.self.inside.passed + 1) c.self.inside.lines)
    (fields_of c.next_pieces.new.row)) c.self.view_is
    (apart_next _ _ _ _ reads (omega (arith, c.len.ensures, c.if-len-ge2.true))).0

pub take_after-line-requires-clause-there : goal.take_after-line-requires-clause-there
take_after-line-requires-clause-there c =
    (reads_next c.self.inside.lines c.self.inside.passed _ _ _
    (c.in-Ok-true.ensures _ (c.self.invariant.awaits c.in-Open.is)) c.in-Ok-true.field-0-test).within

pub invariant_of-self-in-Ok-true : goal.invariant_of-self-in-Ok-true
invariant_of-self-in-Ok-true c =
    let reads = reads_next c.self.inside.lines c.self.inside.passed _ _ _
    (c.in-Ok-true.ensures _ (c.self.invariant.awaits c.in-Open.is)) c.in-Ok-true.field-0-test in
    record {
      within = omega arith;
      few = omega (
        arith,
        c.self.invariant.few,
        c.take_after-line.ensures.less,
        length-drop c.self.inside.passed c.self.inside.lines,
      );
      awaits = λ still. after_next _ _ _ _ _ reads c.take_after-line.ensures.given;
      over = λ never. let is = c.in-Open.is in cc;
    }

pub invariant_of-self-in-Ok-false : goal.invariant_of-self-in-Ok-false
invariant_of-self-in-Ok-false c = grind (arith, none_next)

pub returns-else-len-ge2-clause-less : goal.returns-else-len-ge2-clause-less
returns-else-len-ge2-clause-less c = grind arith

pub returns-in-Ok-false-clause-read : goal.returns-in-Ok-false-clause-read
returns-in-Ok-false-clause-read c = grind (arith, none_next)
