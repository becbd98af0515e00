use Rattle.plan_num.proofs.Common.{◌≡◌, ◌∙◌, length, ap, subst}
use Rattle.waiting_decisions.specs.Paths.{all_but, region_in}
use Rattle.waiting_decisions.specs.Regions.{greatest_set}
use Rattle.waiting_decisions.proofs.PathFacts.{greatest_is}
use Rattle.waiting_decisions.proofs.path.Path.dropped.Goals as goal

pub returns : goal.returns
returns c =
    subst (λ path. all_but (length path.problem.changes) c.deref.result.now ≡ greatest_set (region_in path))
    c.self.view_is
    (ap (all_but (length c.self.inside.trial.problem.changes)) (c.deref.ensures.value ∙ c.self.invariant.drops)
    ∙ greatest_is (length c.self.inside.trial.problem.changes) c.self.inside.trial.decided c.self.invariant.once)
