-- The activities so far are revised unless their sets have changed since.
use Rattle.plan_num.proofs.Common.{◌≡◌, length}
use Rattle.pesp.specs.Marks.{times_from}
use Rattle.pesp.proofs.Visiting.{IsVisited}
use Rattle.pesp.proofs.reduce.visit_links.Given as goal

abbrev pub invariant-loop-index : goal.invariant-loop-index
invariant-loop-index l = record {
  visited : IsVisited l.pesp l.event l.indexes l.fn.sets l.sets l.fn.changed l.changed
      l.index-index;
  counted : l.count ≡ length (times_from l.sets.sets l.event 0);
}
