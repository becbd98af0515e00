use Rattle.plan_num.proofs.Common.{◌≡◌, sym, subst, arith}
use Rattle.link_plans.proofs.Common.{followed, is_next}
use Rattle.plan_search.specs.Claims.{AreClaims}
use Rattle.plan_search.specs.Trees.{TreeParts, IsReached, IsTree}
use Rattle.plan_search.proofs.TreeSteps.{room_left, tree_grown}
use Rattle.plan_search.proofs.TreeTurns.{either_way, ok_map}
use Rattle.plan_search.proofs.tree.Tree.claim.Goals as goal

pub claim-requires-clause-place : goal.claim-requires-clause-place
claim-requires-clause-place c = grind arith

pub claim-requires-clause-open : goal.claim-requires-clause-open
claim-requires-clause-open c = grind arith

pub invariant_of-self : goal.invariant_of-self
invariant_of-self c =
    let reached = subst (λ t. IsReached t c.args.place c.args.member) (sym c.self.view_is) c.requires.reached in
    let left = followed c.self.inside.plan c.args.place
    (subst (λ (t : TreeParts). is_next t.plan c.args.place ≡ _) (sym c.self.view_is) c.requires.has) in
    either_way (λ claims. IsTree (record {
      links = c.self.inside.links.now;
      plan = c.self.inside.plan;
      potentials = c.self.inside.potentials;
      claims = claims;
      nears = c.self.inside.nears;
      root = c.self.inside.root;
    })) c.claim.result _ _ _ c.claim.ensures.claimed c.claim.ensures.kept
    (tree_grown _ c.self.invariant c.claim.ensures.claims c.args.place c.args.member reached left.0 left.1)
    c.self.invariant

pub returns-clause-claimed : goal.returns-clause-claimed
returns-clause-claimed c = grind (arith, ok_map)

pub returns-clause-few : goal.returns-clause-few
returns-clause-few c = grind (arith, room_left)

pub returns-clause-claims : goal.returns-clause-claims
returns-clause-claims c = subst (λ (t : TreeParts). AreClaims t.claims) c.self.view_is c.claim.ensures.claims
