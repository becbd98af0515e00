-- So many lines are passed over.
use Rattle.plan_num.proofs.Common.{◌≡◌, drop}
use Rattle.text_fields.proofs.text_lines.TextLines.skip.Given as goal

abbrev pub invariant-loop-line : goal.invariant-loop-line
invariant-loop-line l = l.self ≡ drop l._line l.fn.self
