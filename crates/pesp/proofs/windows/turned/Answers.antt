use Rattle.plan_num.proofs.Common.{inl, inr, arith}
use Rattle.pesp.proofs.OneWord.{not_turned, turned_word}
use Rattle.pesp.proofs.windows.turned.Goals.{then-by-eq0-via-then-by-eq0}
use Rattle.pesp.proofs.windows.turned.Goals.{then-by-eq0-via-else-by-eq0+then-by-period}
use Rattle.pesp.proofs.windows.turned.Goals as goal

pub returns-then-by-eq0 : goal.returns-then-by-eq0
returns-then-by-eq0 c =
    not_turned c.args.times c.args.period c.args.by c.requires.some c.requires.small
    c.requires.clear (elim c.then-by-eq0.branch [
      | then-by-eq0-via-then-by-eq0 w ↦ inl w.if-by-eq0.true
      | then-by-eq0-via-else-by-eq0+then-by-period w ↦ inr w.if-by-period.true
    ])

pub returns : goal.returns
returns c =
    turned_word c.args.times c.args.period c.args.by c.requires.some c.requires.small
    c.requires.clear c.cut.result c.ranges.times.fits (omega (arith, c.if-by-eq0.false))
    (omega (arith, c.if-by-period.false, c.requires.by)) c.cut.ensures
