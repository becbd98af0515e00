-- The links so far are covered.
use Rattle.plan_search.proofs.Parted.{AreCovered}
use Rattle.plan_search.proofs.parting.covers.Given as goal

abbrev pub invariant-loop-link : goal.invariant-loop-link
invariant-loop-link l = AreCovered l.links l.potentials l.i l.link-index
