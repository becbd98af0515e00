use Rattle.plan_num.proofs.Common.{sym, subst, arith}
use Rattle.plan_search.specs.Trees.{IsEnd, IsAugmented}
use Rattle.plan_search.proofs.TreeEnds.{can_be_handed, is_tight, is_augmented}
use Rattle.plan_search.proofs.tree.Tree.augment.Goals as goal

pub claim-requires-clause-place : goal.claim-requires-clause-place
claim-requires-clause-place c = grind arith

pub claim-requires-clause-open : goal.claim-requires-clause-open
claim-requires-clause-open c = grind arith

pub hand_to-requires : goal.hand_to-requires
hand_to-requires c = can_be_handed _ c.self.invariant c.args.end
    (subst (λ t. IsEnd t c.args.end) (sym c.self.view_is) c.requires) _ c.in_ok-claim.ensures.claimed
    c.claim.ensures.claims

pub invariant_of-result : goal.invariant_of-result
invariant_of-result c = is_tight _ c.self.invariant c.args.end
    (subst (λ t. IsEnd t c.args.end) (sym c.self.view_is) c.requires) _ c.in_ok-claim.ensures.claimed
    _ c.hand_to.ensures

pub returns : goal.returns
returns c = subst (λ t. IsAugmented t (record {
  links = c.self.inside.links.now;
  plan = c.hand_to.new.plan;
  potentials = c.self.inside.potentials;
  claims = c.claim.new.self;
  nears = c.self.inside.nears;
})) c.self.view_is
    (is_augmented _ c.self.invariant c.args.end
    (subst (λ t. IsEnd t c.args.end) (sym c.self.view_is) c.requires) _ c.in_ok-claim.ensures.claimed
    _ c.hand_to.ensures)
