-- A place is handed on to the root.
use Rattle.link_plans.proofs.Common.{links_in}
use Rattle.plan_search.specs.Growing.{looking}
use Rattle.plan_search.proofs.tree.Tree.augment.Given as goal

abbrev pub ghost-hand_to : goal.ghost-hand_to
ghost-hand_to a = looking (links_in a._links.now) a._potentials.now a.plan.now a._root
