use Rattle.plan_num.proofs.Common.{length, ap, ◌∙◌}
use Rattle.roll_out.proofs.RolloutCalls.{activities_counted}
use Rattle.roll_out.proofs.stage.activity_count.Goals as goal

pub returns : goal.returns
returns c =
    activities_counted c.args.network.now c.args.trips.now c.way_count.result
    c.change_count.result c.way_count.ensures.count
    (c.change_count.ensures.count ∙ ap length c.requires.changes)
