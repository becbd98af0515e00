use Rattle.plan_num.proofs.Common.{arith, sym, subst}
use Rattle.plan_search.specs.Trees.{IsLooked}
use Rattle.plan_search.proofs.TreeSteps.{reached_after}
use Rattle.plan_search.proofs.TreeTurns.{turn_one, turn_kept, turn_more, ok_map, ok_then}
use Rattle.plan_search.proofs.tree.Tree.grow.Goals as goal

pub shift-requires-clause-looked : goal.shift-requires-clause-looked
shift-requires-clause-looked c = subst IsLooked (sym c.nearest.ensures.same) c.requires

pub reach-requires-clause-reached : goal.reach-requires-clause-reached
reach-requires-clause-reached c = grind (arith, reached_after)

pub returns-in-Some-clause-one : goal.returns-in-Some-clause-one
returns-in-Some-clause-one c = grind (arith, ok_map, turn_one)

pub returns-in-Some-clause-kept : goal.returns-in-Some-clause-kept
returns-in-Some-clause-kept c = grind (arith, ok_map, turn_kept)

pub returns-in-Some-clause-more : goal.returns-in-Some-clause-more
returns-in-Some-clause-more c = ok_then _ c.reach.result
    (turn_more c.args.self.now c.nearest.new.self c.shift.new.self c.in-Some.near.slack c.nearest.ensures.same
    c.shift.ensures c.reach.new.self) c.reach.ensures.more
