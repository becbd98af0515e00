use Rattle.plan_num.proofs.Common.{◌≡◌, ◌∙◌, subst}
use Rattle.waiting_decisions.specs.Paths.{region_in}
use Rattle.waiting_decisions.specs.Regions.{first_broken}
use Rattle.waiting_decisions.proofs.PathFacts.{broken_is}
use Rattle.waiting_decisions.proofs.path.Path.first_broken.Goals as goal

pub returns : goal.returns
returns c =
    subst (λ path. c.first_broken.result ≡ first_broken path.problem (region_in path)) c.self.view_is
    (c.first_broken.ensures ∙ broken_is c.self.inside.trial c.self.invariant.once)
