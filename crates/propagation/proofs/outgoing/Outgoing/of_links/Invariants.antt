-- The links from an index on are chained.
use Rattle.plan_num.proofs.Common.{◌≡◌, ◌≤◌, length}
use Rattle.propagation.specs.Outgoing.{AreChained}
use Rattle.propagation.proofs.outgoing.Outgoing.of_links.Given as goal

abbrev pub invariant-loop-left : goal.invariant-loop-left
invariant-loop-left l = record {
  most : l.left ≤ length l.links;
  events : length l.firsts.items ≡ l.events;
  chained : AreChained l.links l.left l.firsts.items l.nexts.items;
}

abbrev pub decreases-loop-left : goal.decreases-loop-left
decreases-loop-left l = l.left
