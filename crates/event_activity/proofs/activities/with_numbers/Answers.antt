use Rattle.event_activity.specs.Activities.{with_number}
use Rattle.plan_num.proofs.Added.{added_numbered}
use Rattle.event_activity.proofs.activities.with_numbers.Goals as goal

pub loop-place-preserved : goal.loop-place-preserved
loop-place-preserved c =
    added_numbered with_number c.args.activities.now c.loop-place.place _
    c.loop-place.numbered.items c.push.new.self.items c.loop-place-test.true
    c.loop-place.invariant c.in_ok-push.ensures.items
