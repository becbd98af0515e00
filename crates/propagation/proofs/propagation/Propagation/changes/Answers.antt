use Rattle.plan_num.proofs.Common.{◌≤◌, All, length, map, subst, IsStrictlyIncreasing}
use Rattle.propagation.specs.Problems.{Joins}
use Rattle.propagation.proofs.ForwardSteps.{changes_few, changes_join, change_ids}
use Rattle.propagation.proofs.propagation.Propagation.changes.Goals as goal

pub returns-clause-ends : goal.returns-clause-ends
returns-clause-ends c =
    subst (λ p. All (λ at. Joins (length p.events) at.step) p.changes) c.self.view_is
    (changes_join _ _ c.self.invariant)

pub returns-clause-ids : goal.returns-clause-ids
returns-clause-ids c =
    subst (λ p. All (λ at. at.id ≤ 500000) p.changes) c.self.view_is (change_ids _ _ c.self.invariant)

pub returns-clause-rise : goal.returns-clause-rise
returns-clause-rise c =
    subst (λ p. IsStrictlyIncreasing (map (λ change. change.id) p.changes)) c.self.view_is c.self.invariant.rise

pub returns-clause-few : goal.returns-clause-few
returns-clause-few c =
    subst (λ p. length p.changes ≤ 502000) c.self.view_is (changes_few _ _ c.self.invariant)
