use Rattle.plan_num.proofs.Common.{◌∙◌, arith}
use Rattle.pesp.proofs.FlagBits.{size_is}
use Rattle.pesp.proofs.flags.EventFlags.events.Goals as goal

pub returns-clause-value : goal.returns-clause-value
returns-clause-value c =
    c.columns.ensures.value ∙ size_is c.self.inside.bits c.args.self.now c.self.view_is

pub returns-clause-few : goal.returns-clause-few
returns-clause-few c =
    omega (arith, c.self.invariant, size_is c.self.inside.bits c.args.self.now c.self.view_is)
