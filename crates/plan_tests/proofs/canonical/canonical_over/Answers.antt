use Rattle.plan_tests.proofs.canonical.canonical_over.Goals as goal

pub canonical_of-requires-clause-plan : goal.canonical_of-requires-clause-plan
canonical_of-requires-clause-plan c = c.in_ok-plan.ensures.plan
