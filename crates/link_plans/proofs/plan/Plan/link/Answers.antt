use Rattle.plan_num.proofs.Common.{◌<◌, ◌≡◌, length, false, subst, sym}
use Rattle.link_plans.specs.Plans.{is_next}
use Rattle.link_plans.proofs.Linking.{linked}
use Rattle.link_plans.proofs.plan.Plan.link.Goals as goal

pub invariant_of-self : goal.invariant_of-self
invariant_of-self c = linked c.self.inside.successors.items c.args.i c.args.j
    (subst (λ plan. c.args.i < length plan) (sym c.self.view_is) c.requires.from)
    c.self.invariant
    (subst (λ plan. c.args.j < length plan) (sym c.self.view_is) c.requires.to)
    (subst (λ plan. is_next plan c.args.j ≡ false) (sym c.self.view_is) c.requires.apart)
