use Rattle.plan_num.proofs.Common.{ap, subst, sym, ◌∙◌}
use Rattle.link_plans.proofs.Common.{next}
use Rattle.assignment.specs.ClaimablePlaces.{IsTakenOut}
use Rattle.plan_search.specs.Claims.{claim_at}
use Rattle.assignment.proofs.Claimables.{claimable_next}
use Rattle.plan_search.proofs.ClaimLists.{none_at}
use Rattle.assignment.proofs.chosen.place_for_good.Goals as goal

pub returns-clause-places : goal.returns-clause-places
returns-clause-places g c = claimable_next g.search c.args.assignment.now c.decide.new.assignment
    c.decide.new.claimed.claims c.clear.new.self c.decide.new.claimed.places c.put_back.new.places
    c.take_out.new.places c.requires.0.first c.in_ok-decide.ensures.kept.right
    c.in_ok-decide.ensures.kept.claimable c.put_back.ensures c.in_ok-decide.ensures.settled.same
    (subst (λ to. IsTakenOut to c.put_back.new.places c.take_out.new.places)
    (c.next.ensures.value ∙ ap (next c.decide.new.assignment) (sym c.requires.1.0))
    c.take_out.ensures)
    (λ place. ap (λ claims. claim_at claims place) c.clear.ensures ∙ none_at _ place)
