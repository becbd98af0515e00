use Rattle.plan_tests.proofs.plans.written.Goals as goal

pub write_plan-requires : goal.write_plan-requires
write_plan-requires c = c.in_ok-plan.ensures.plan
