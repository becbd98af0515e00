use Rattle.plan_num.proofs.Common.{◌∙◌}
use Rattle.connections.proofs.Rising.{halved}
use Rattle.connections.proofs.check.is_in.Goals as goal

pub returns : goal.returns
returns c =
    c.is_ok.ensures.value
    ∙ halved c.args.events.now c.args.event c.binary_search.result c.binary_search.ensures.position c.requires
