use Rattle.plan_num.proofs.Common.{◌<◌, length, IfSome, ap, ◌∙◌, sym, subst}
use Rattle.link_plans.specs.Plans.{next}
use Rattle.link_plans.proofs.Moves.{before_inside}
use Rattle.link_plans.proofs.assignment.Assignment.before.Goals as goal

pub returns-clause-within : goal.returns-clause-within
returns-clause-within c =
    subst (λ at. IfSome at (λ other. other < length c.args.self.now))
    (sym (c.at.ensures ∙ ap (λ list. next list c.args.trip) c.deref.ensures.value))
    (subst (λ n. IfSome (next c.self.inside.before.items c.args.trip) (λ other. other < n))
    (ap length c.self.view_is)
    (before_inside c.self.inside.next.items c.self.inside.before.items c.self.invariant c.args.trip))
