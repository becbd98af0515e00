use Rattle.plan_tests.proofs.plans.cheapest.Goals as goal

pub told-requires : goal.told-requires
told-requires c = c.in_ok-solved.ensures.plan
