use Rattle.plan_num.proofs.Common.{◌<◌, length, IfSome, sym, ◌∙◌, ap, subst}
use Rattle.link_plans.specs.Plans.{next}
use Rattle.link_plans.proofs.Moves.{own_inside}
use Rattle.link_plans.proofs.assignment.Assignment.take_away.Goals as goal

pub forget-requires : goal.forget-requires
forget-requires c =
    subst (λ at. IfSome at (λ own. own < length c.self.inside.before.items))
    (sym (c.at-own.ensures ∙ ap (λ list. next list c.args.trip) c.deref.ensures.value))
    (own_inside c.self.inside.next.items c.self.inside.before.items c.self.invariant c.args.trip
    (subst (λ plan. c.args.trip < length plan) (sym c.self.view_is) c.requires))
