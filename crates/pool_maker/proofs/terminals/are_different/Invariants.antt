-- No id so far is one of those behind it.
use Rattle.pool_maker.proofs.SortedIds.{AreDecided}
use Rattle.pool_maker.proofs.terminals.are_different.Given as goal

abbrev pub invariant-loop-place : goal.invariant-loop-place
invariant-loop-place l = AreDecided l.ids l.place
