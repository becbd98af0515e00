use Rattle.plan_num.proofs.Common.{◌<◌, sym, subst}
use Rattle.plan_search.specs.Growing.{AreShifted}
use Rattle.plan_search.specs.Trees.{IsLooked, IsLeast, IsShifted}
use Rattle.plan_search.proofs.TreeSteps.{small_after, tree_shifted, is_shifted}
use Rattle.plan_search.proofs.tree.Tree.shift.Goals as goal

pub shift_potentials-requires-clause-small : goal.shift_potentials-requires-clause-small
shift_potentials-requires-clause-small c j within =
    small_after _ c.self.invariant (subst IsLooked (sym c.self.view_is) c.requires.looked) c.args.slack
    (subst (λ t. IsLeast t c.args.slack) (sym c.self.view_is) c.requires.least) j
    (subst (λ n. j < n) c.self.invariant.growing.tight.each within)

pub invariant_of-self : goal.invariant_of-self
invariant_of-self c =
    tree_shifted _ c.self.invariant (subst IsLooked (sym c.self.view_is) c.requires.looked) c.args.slack
    (subst (λ t. IsLeast t c.args.slack) (sym c.self.view_is) c.requires.least) _
    (subst (λ n. AreShifted c.self.inside.root c.self.inside.plan c.self.inside.claims c.args.slack n
    c.self.inside.potentials c.shift_potentials.new.potentials) c.self.invariant.growing.tight.each
    c.shift_potentials.ensures)
    _ c.shift_nears.ensures.each

pub returns : goal.returns
returns c =
    subst (λ t. IsShifted t c.args.slack (record {
      links = c.self.inside.links.now;
      plan = c.self.inside.plan;
      potentials = c.shift_potentials.new.potentials;
      claims = c.self.inside.claims;
      nears = c.shift_nears.new.nears;
      root = c.self.inside.root;
    })) c.self.view_is
    (is_shifted _ c.self.invariant (subst IsLooked (sym c.self.view_is) c.requires.looked) c.args.slack
    (subst (λ t. IsLeast t c.args.slack) (sym c.self.view_is) c.requires.least) _
    (subst (λ n. AreShifted c.self.inside.root c.self.inside.plan c.self.inside.claims c.args.slack n
    c.self.inside.potentials c.shift_potentials.new.potentials) c.self.invariant.growing.tight.each
    c.shift_potentials.ensures)
    _ c.shift_nears.ensures.each c.shift_nears.ensures.shifted)
