use Rattle.plan_num.proofs.Common.{◌∙◌, ap, sym}
use Rattle.waiting_decisions.specs.Walks.{Walking}
use Rattle.waiting_decisions.proofs.Walked.{none_waits}
use Rattle.waiting_decisions.proofs.walk.Walk.take.Goals as goal

pub returns-then-not-self : goal.returns-then-not-self
returns-then-not-self c =
    none_waits c.args.self.now (sym (ap (λ (walk : Walking). walk.is_waiting) c.self.view_is) ∙ c.if-not-self.true)
    c.args.node
