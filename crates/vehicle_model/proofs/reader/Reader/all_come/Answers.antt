use Rattle.plan_num.proofs.Common.{get_or, arith, get_or_default}
use Rattle.vehicle_model.proofs.AllCome.{come_more}
use Rattle.vehicle_model.proofs.reader.Reader.all_come.Goals as goal

pub loop-i-preserved : goal.loop-i-preserved
loop-i-preserved c =
    let come = c.self.inside.come.items in grind (arith, get_or, get_or_default, come_more)
