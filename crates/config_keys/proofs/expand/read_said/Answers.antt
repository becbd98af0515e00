use Rattle.plan_num.proofs.Common.{refl, on_ok_weaker}
use Rattle.config_keys.proofs.SaidItems.{read_said}
use Rattle.config_keys.proofs.expand.read_said.Goals as goal

pub returns : goal.returns
returns c = on_ok_weaker c.add.result (read_said c.args.said.now c.args.reading.now
    (record { includes = c.args.reading.now.includes; said = c.add.new.self }) refl) c.add.ensures
