use Rattle.plan_search.specs.Trees.{IsAugmented, TakesIn}
use Rattle.plan_search.proofs.TreeEnds.{ok_each, takes_in}
use Rattle.plan_search.proofs.tight_plan.TightPlan.take_in.Goals as goal

pub returns : goal.returns
returns c = ok_each (IsAugmented c.find_end.new.self) (TakesIn c.args.self c.args.trip) c.augment.result
    (λ after. takes_in c.args.self c.args.trip c.tree_from-tree.result c.find_end.new.self after
    c.tree_from-tree.ensures c.in_ok-end.ensures.one c.in_ok-end.ensures.kept)
    c.augment.ensures
