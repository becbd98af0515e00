use Rattle.roll_out.specs.DayActivities.{with_number}
use Rattle.roll_out.proofs.ways.with_numbers.Goals as goal
use Rattle.plan_num.proofs.Added.{added_numbered}

pub loop-place-preserved : goal.loop-place-preserved
loop-place-preserved c =
    added_numbered with_number c.args.activities.now c.loop-place.place _
    c.loop-place.numbered.items c.push.new.self.items c.loop-place-test.true
    c.loop-place.invariant c.in_ok-push.ensures.items
