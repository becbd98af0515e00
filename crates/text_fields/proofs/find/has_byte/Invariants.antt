-- The answer for the bytes so far.
use Rattle.plan_num.proofs.Common.{◌≡◌, take, eqb, list_any}
use Rattle.text_fields.proofs.find.has_byte.Given as goal

abbrev pub invariant-loop-other : goal.invariant-loop-other
invariant-loop-other l = l.found ≡ list_any (λ other. eqb other l.byte) (take l.other-index l.bytes)
