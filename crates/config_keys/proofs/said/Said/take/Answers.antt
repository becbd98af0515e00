use Rattle.plan_num.proofs.Common.{sym, on_ok_weaker}
use Rattle.config_keys.proofs.SaidItems.{says_nothing, says_named}
use Rattle.config_keys.proofs.said.Said.take.Goals as goal

pub returns-in-None : goal.returns-in-None
returns-in-None c = says_nothing c.args.name.now c.args.value.now c.args.self.now (sym c.in-None.ensures)

pub returns-in-Some : goal.returns-in-Some
returns-in-Some c = on_ok_weaker c.put.result
    (says_named c.args.name.now c.args.value.now c.in-Some.key c.args.self.now c.put.new.self
    (sym c.in-Some.ensures)) c.put.ensures
