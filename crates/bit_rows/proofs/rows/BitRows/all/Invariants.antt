-- The words so far.
use Rattle.bit_rows.proofs.FullRows.{AreFull}
use Rattle.bit_rows.proofs.rows.BitRows.all.Given as goal

abbrev pub invariant-loop-place : goal.invariant-loop-place
invariant-loop-place l = AreFull l.columns l.words.items l.place
