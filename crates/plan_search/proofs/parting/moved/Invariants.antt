-- There is a number for each trip, and those of the trips so far are moved.
use Rattle.plan_num.proofs.Common.{length}
use Rattle.link_plans.proofs.Common.{AreOver}
use Rattle.plan_search.specs.Moved.{AreMoved}
use Rattle.plan_search.proofs.parting.moved.Given as goal

abbrev pub invariant-loop-i : goal.invariant-loop-i
invariant-loop-i l = record {
  over : AreOver (length l.assignment) l.moved;
  moved : AreMoved l.found l.assignment l.potentials l.moved l.i;
}
