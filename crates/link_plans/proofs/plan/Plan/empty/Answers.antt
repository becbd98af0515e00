use Rattle.plan_num.proofs.Common.{sym, subst}
use Rattle.link_plans.specs.Plans.{AreSuccessors}
use Rattle.link_plans.proofs.Linking.{none_linked}
use Rattle.link_plans.proofs.plan.Plan.empty.Goals as goal

pub invariant_of-result : goal.invariant_of-result
invariant_of-result c =
    subst AreSuccessors (sym c.loop-trip.invariant) (none_linked c.loop-trip._trip)
