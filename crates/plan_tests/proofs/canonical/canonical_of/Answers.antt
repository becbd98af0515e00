use Rattle.plan_tests.proofs.canonical.canonical_of.Goals as goal

pub check_potentials-requires-clause-plan : goal.check_potentials-requires-clause-plan
check_potentials-requires-clause-plan c = c.requires.plan

pub check_potentials-requires-clause-each : goal.check_potentials-requires-clause-each
check_potentials-requires-clause-each c = c.requires.each

pub potentials-requires-clause-plan : goal.potentials-requires-clause-plan
potentials-requires-clause-plan c = c.requires.plan

pub potentials-requires-clause-valid : goal.potentials-requires-clause-valid
potentials-requires-clause-valid c = c.check_potentials.ensures.valid.0 c.in-None.is
