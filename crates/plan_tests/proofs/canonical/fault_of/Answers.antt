use Rattle.plan_tests.proofs.canonical.fault_of.Goals as goal

pub check_potentials-requires-clause-plan : goal.check_potentials-requires-clause-plan
check_potentials-requires-clause-plan c = c.requires
