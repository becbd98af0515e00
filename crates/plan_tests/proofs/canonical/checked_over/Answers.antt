use Rattle.plan_tests.proofs.canonical.checked_over.Goals as goal

pub fault_of-requires : goal.fault_of-requires
fault_of-requires c = c.in_ok-plan.ensures.plan
