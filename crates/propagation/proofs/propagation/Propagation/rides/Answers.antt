use Rattle.plan_num.proofs.Common.{◌≤◌, All, length, subst}
use Rattle.propagation.specs.Problems.{Joins}
use Rattle.propagation.proofs.ForwardSteps.{rides_join, ride_ids}
use Rattle.propagation.proofs.propagation.Propagation.rides.Goals as goal

pub returns-clause-ends : goal.returns-clause-ends
returns-clause-ends c =
    subst (λ p. All (λ at. Joins (length p.events) at.step) p.rides) c.self.view_is
    (rides_join _ _ c.self.invariant)

pub returns-clause-ids : goal.returns-clause-ids
returns-clause-ids c =
    subst (λ p. All (λ at. at.id ≤ 500000) p.rides) c.self.view_is (ride_ids _ _ c.self.invariant)
