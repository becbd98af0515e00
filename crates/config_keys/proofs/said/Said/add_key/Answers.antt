use Rattle.plan_num.proofs.Common.{sym}
use Rattle.config_keys.proofs.SaidItems.{item_none}
use Rattle.config_keys.proofs.said.Said.add_key.Goals as goal

pub returns-in-None : goal.returns-in-None
returns-in-None c = item_none c.args.later.now c.args.self.now c.args.key (sym c.in-None.ensures)
