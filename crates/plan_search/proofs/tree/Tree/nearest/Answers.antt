use Rattle.plan_num.proofs.Common.{◌∙◌, length, ap, sym, subst}
use Rattle.plan_search.specs.Trees.{IsLooked}
use Rattle.plan_search.proofs.TreeSteps.{nearest_is, with_nears}
use Rattle.plan_search.proofs.tree.Tree.nearest.Goals as goal

pub nearest-requires : goal.nearest-requires
nearest-requires c = c.self.invariant.growing.places ∙ sym c.self.invariant.near_each

pub invariant_of-self : goal.invariant_of-self
invariant_of-self c = with_nears _ c.self.invariant _ (ap length c.nearest.ensures.same)

pub returns-clause-nearest : goal.returns-clause-nearest
returns-clause-nearest c = nearest_is _ c.self.invariant
    (subst IsLooked (sym c.self.view_is) c.requires) c.nearest.result _ c.nearest.ensures.same
    c.nearest.ensures.nearest
