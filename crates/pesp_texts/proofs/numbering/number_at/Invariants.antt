-- So many rows are passed over.
use Rattle.plan_num.proofs.Common.{◌≡◌, drop}
use Rattle.pesp_texts.proofs.numbering.number_at.Given as goal

abbrev pub invariant-loop-passed : goal.invariant-loop-passed
invariant-loop-passed l = l.rows ≡ drop l._passed l.fn.rows
