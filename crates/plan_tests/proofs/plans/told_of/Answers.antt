use Rattle.plan_tests.proofs.plans.told_of.Goals as goal

pub told-requires : goal.told-requires
told-requires c = c.in_ok-plan.ensures.plan
