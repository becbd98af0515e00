use Rattle.plan_num.proofs.Common.{◌≡◌, subst, reverse}
use Rattle.delay_trials.specs.OnTrial.{decided_in}
use Rattle.delay_trials.specs.Trials.{first_broken}
use Rattle.delay_trials.proofs.FirstOpen.{tells_first}
use Rattle.delay_trials.proofs.trial.Trial.first_broken.Goals as goal

pub returns : goal.returns
returns c =
    subst (λ t. c.first_broken.result ≡ first_broken t) c.self.view_is
    (tells_first c.self.inside.times (decided_in (reverse c.self.inside.taken.items)) c.self.inside.kept.items
    c.self.invariant.trial c.first_broken.result c.first_broken.ensures)
