use Rattle.plan_num.proofs.Common.{arith}
use Rattle.plan_search.proofs.TreeSteps.{member_within, member_covered}
use Rattle.plan_search.proofs.tree.Tree.look_from.Goals as goal

pub next-requires : goal.next-requires
next-requires c = grind (arith, member_within)

pub look-requires-clause-trip : goal.look-requires-clause-trip
look-requires-clause-trip c = grind (arith, member_within)

pub look-requires-clause-covered : goal.look-requires-clause-covered
look-requires-clause-covered c = grind (arith, member_covered)
