use Rattle.plan_tests.proofs.plans.told.Goals as goal

pub plan_cost-requires : goal.plan_cost-requires
plan_cost-requires c = c.requires
