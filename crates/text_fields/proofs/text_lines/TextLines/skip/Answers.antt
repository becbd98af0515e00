use Rattle.plan_num.proofs.Common.{◌≡◌, ◌+◌, ◌∙◌, ap, arith, drop, slice_get}
use Rattle.text_fields.proofs.LinesRead.{next_dropped}
use Rattle.text_fields.proofs.text_lines.TextLines.skip.Goals as goal

pub loop-line-preserved : goal.loop-line-preserved
loop-line-preserved c =
    (next_dropped _ _ _ c.loop-line._line c.next.result c.loop-line.invariant c.next.ensures).0

pub returns-clause-line : goal.returns-clause-line
returns-clause-line c =
    let all : c.loop-line._line ≡ c.args.count = omega arith in
    (next_dropped _ _ _ c.loop-line._line c.next-2.result c.loop-line.invariant
    c.next-2.ensures).1
    ∙ ap (slice_get c.args.self.now) all

pub returns-clause-left : goal.returns-clause-left
returns-clause-left c =
    let all : c.loop-line._line ≡ c.args.count = omega arith in
    (next_dropped _ _ _ c.loop-line._line c.next-2.result c.loop-line.invariant
    c.next-2.ensures).0
    ∙ ap (λ n. drop (n + 1) c.args.self.now) all
