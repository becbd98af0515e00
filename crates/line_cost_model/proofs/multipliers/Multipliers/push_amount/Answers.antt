use Rattle.plan_num.proofs.Common.{sym, subst}
use Rattle.line_cost_model.specs.Multipliers.{AreMultipliers, IsAfter}
use Rattle.line_cost_model.proofs.Pushed.{multipliers_push}
use Rattle.line_cost_model.proofs.multipliers.Multipliers.push_amount.Goals as goal

pub invariant_of-self-2 : goal.invariant_of-self-2
invariant_of-self-2 c =
    let after = subst (λ list. IsAfter list c.args.edge) (sym c.self.view_is) c.requires.after in
    subst AreMultipliers (sym c.in_ok-push.ensures.items)
    (multipliers_push c.self.inside.list.items c.args.edge c.args.amount c.self.invariant
    c.requires.amount after)
