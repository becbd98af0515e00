use Rattle.plan_num.proofs.Common.{◌∙◌, sym}
use Rattle.connections.proofs.Rising.{last_at}
use Rattle.connections.proofs.check.last_of.Goals as goal

pub returns : goal.returns
returns c = c.copied.ensures ∙ c.last.ensures.value ∙ sym (last_at c.args.events.now)
