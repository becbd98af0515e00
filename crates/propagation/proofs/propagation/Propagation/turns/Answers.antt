use Rattle.plan_num.proofs.Common.{All, length, subst}
use Rattle.propagation.specs.Problems.{Joins}
use Rattle.propagation.proofs.ForwardSteps.{turns_join}
use Rattle.propagation.proofs.propagation.Propagation.turns.Goals as goal

pub returns-clause-ends : goal.returns-clause-ends
returns-clause-ends c =
    subst (λ p. All (Joins (length p.events)) p.turns) c.self.view_is
    (turns_join _ _ c.self.invariant)
