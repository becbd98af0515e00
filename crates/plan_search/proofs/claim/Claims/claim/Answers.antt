use Rattle.plan_num.proofs.Common.{◌≡◌, ◌<◌, length, None, ap, ◌∙◌, sym, subst}
use Rattle.plan_search.specs.Claims.{claim_at, AreClaims}
use Rattle.plan_search.proofs.ClaimLists.{few_open}
use Rattle.plan_search.proofs.Flags.{flagged_more}
use Rattle.plan_search.proofs.claim.Claims.claim.Goals as goal

pub returns-in_err-push-clause-few : goal.returns-in_err-push-clause-few
returns-in_err-push-clause-few c = few_open c.args.self.now
    (subst AreClaims c.self.view_is c.self.invariant.claims_are) c.args.place
    c.requires.place c.requires.open

pub invariant_of-self-2 : goal.invariant_of-self-2
invariant_of-self-2 c = flagged_more
    (record { at = c.self.inside.claims.items; order = c.self.inside.order.items }) c.self.inside.flags.items
    c.self.invariant
    c.args.place (record { by = c.args.by; from = c.args.from; step = c.count-step.result })
    (subst (λ claims. c.args.place < length claims.at) (sym c.self.view_is) c.requires.place)
    (subst (λ claims. claim_at claims c.args.place ≡ None) (sym c.self.view_is) c.requires.open)
    (c.count-step.ensures.count ∙ ap (λ claims. length claims.order) (sym c.self.view_is))
    c.push.new.self.items c.in_ok-push.ensures.items

pub returns-clause-few : goal.returns-clause-few
returns-clause-few c = few_open c.args.self.now (subst AreClaims c.self.view_is c.self.invariant.claims_are)
    c.args.place
    c.requires.place c.requires.open
