use Rattle.plan_num.proofs.Common.{arith}
use Rattle.pesp.proofs.MarkBits.{next_found, none_at_end, none_found}
use Rattle.pesp.proofs.marks.TimeMarks.next_left.Goals as goal

pub returns-in-Some : goal.returns-in-Some
returns-in-Some c =
    let next = next_found c.args.self.now c.args.event c.loop-index.index c.args.from _
    c.word-word.result c.word-word.ensures.sound c.requires.event (omega arith) (omega (
      arith,
      c.max.ensures,
    ))
    c.word-word.ensures.value c.loop-index.invariant c.in-Some.bit c.in-Some.ensures in grind arith

pub loop-index-preserved : goal.loop-index-preserved
loop-index-preserved c =
    none_found c.args.self.now c.args.event c.loop-index.index c.args.from _ c.word-word.result
    c.word-word.ensures.sound c.requires.event (omega arith) (omega (arith, c.max.ensures))
    c.word-word.ensures.value c.loop-index.invariant c.in_default.ensures

pub returns-clause-next : goal.returns-clause-next
returns-clause-next c =
    none_at_end c.args.self.now c.args.event c.loop-index.index c.args.from (omega arith)
    c.loop-index.invariant
