use Rattle.plan_num.proofs.Common.{◌∙◌}
use Rattle.pesp.proofs.FlagBits.{some_by_last}
use Rattle.pesp.proofs.flags.EventFlags.has_some.Goals as goal

pub returns : goal.returns
returns c =
    c.is_some.ensures
    ∙ some_by_last c.args.self.now c.events.result c.last.result c.events.ensures.value
    c.last.ensures
