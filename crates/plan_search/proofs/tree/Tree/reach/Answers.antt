use Rattle.plan_num.proofs.Common.{arith, ◌≡◌, true, Some, subst}
use Rattle.link_plans.proofs.Common.{next_found, next, is_next}
use Rattle.plan_search.specs.Trees.{TreeParts, IsTree}
use Rattle.plan_search.proofs.TreeSteps.{left_inside, looked_on, grown_more}
use Rattle.plan_search.proofs.TreeTurns.{look_one, look_potentials, none_then, if_none}
use Rattle.plan_search.proofs.tree.Tree.reach.Goals as goal

pub claim-requires-clause-has : goal.claim-requires-clause-has
claim-requires-clause-has c = subst (λ (t : TreeParts). is_next t.plan c.args.place ≡ true) c.self.view_is
    (next_found c.self.inside.plan c.in-Some.left c.args.place c.in-Some.ensures.value)

pub look_from-requires : goal.look_from-requires
look_from-requires c = grind (arith, left_inside)

pub returns-in_ok-claim-in-Some-clause-end : goal.returns-in_ok-claim-in-Some-clause-end
returns-in_ok-claim-in-Some-clause-end c =
    let is = subst IsTree c.self.view_is c.self.invariant in
    let has = subst (λ (t : TreeParts). next t.plan c.in-Some.left ≡ Some c.args.place) c.self.view_is
    c.in-Some.ensures.value in
    none_then _ c.look_from.result
    (looked_on c.args.self.now is c.claim.ensures.claims c.args.place c.args.member c.requires.reached
    c.in-Some.left has c.requires.looked c.claim.new.self c.look_from.new.self c.in_ok-claim-in-Some.ensures.claimed
    c.look_from.ensures.same c.look_from.ensures.each)
    c.look_from.ensures.looked

pub returns-in_ok-claim-in-Some-clause-one : goal.returns-in_ok-claim-in-Some-clause-one
returns-in_ok-claim-in-Some-clause-one c = grind (arith, look_one)

pub returns-in_ok-claim-in-Some-clause-potentials : goal.returns-in_ok-claim-in-Some-clause-potentials
returns-in_ok-claim-in-Some-clause-potentials c = grind (arith, look_potentials)

pub returns-in_ok-claim-in-Some-clause-more : goal.returns-in_ok-claim-in-Some-clause-more
returns-in_ok-claim-in-Some-clause-more c =
    let is = subst IsTree c.self.view_is c.self.invariant in
    let has = subst (λ (t : TreeParts). next t.plan c.in-Some.left ≡ Some c.args.place) c.self.view_is
    c.in-Some.ensures.value in
    if_none c.look_from.result
    (grown_more c.args.self.now is c.claim.ensures.claims c.args.place c.args.member c.requires.reached
    c.in-Some.left has c.claim.new.self c.look_from.new.self c.claim.ensures.few
    c.in_ok-claim-in-Some.ensures.claimed c.look_from.ensures.same)
