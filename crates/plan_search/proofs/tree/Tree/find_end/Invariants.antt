-- The tree was looked from all its trips, and each turn claims a place more.
use Rattle.plan_num.proofs.Common.{◌+◌, ◌-◌, length}
use Rattle.plan_search.proofs.TreeTurns.{IsOnItsWay}
use Rattle.plan_search.proofs.tree.Tree.find_end.Given as goal

abbrev pub invariant-loop-end : goal.invariant-loop-end
invariant-loop-end l = IsOnItsWay l.fn.self l.self

abbrev pub decreases-loop-end : goal.decreases-loop-end
decreases-loop-end l = length l.self.links + 1 - length l.self.claims.order
