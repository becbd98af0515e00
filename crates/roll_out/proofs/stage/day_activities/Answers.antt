use Rattle.plan_num.proofs.Common.{arith, IfOk-weaker}
use Rattle.roll_out.proofs.Rolled.{activities_are, plain_few}
use Rattle.roll_out.proofs.stage.day_activities.Goals as goal

pub with_numbers-requires : goal.with_numbers-requires
with_numbers-requires c =
    let network = c.args.network.now in grind (arith, plain_few)

pub returns : goal.returns
returns c =
    let network = c.args.network.now in grind (arith, IfOk-weaker, activities_are)
