use Rattle.plan_num.proofs.Common.{arith}
use Rattle.delay_trials.proofs.FirstPlaces.{no_first, one_first}
use Rattle.delay_trials.proofs.ends.first_ends.Goals as goal

pub loop-event-init : goal.loop-event-init
loop-event-init c = grind (arith, no_first)

pub loop-event-preserved : goal.loop-event-preserved
loop-event-preserved c =
    one_first (λ end. end.event) c.args.ends.now (λ event. event) c.loop-event.event c.first_end.result
    c.loop-event.firsts.items c.push.new.self.items c.loop-event.invariant
    c.first_end.ensures c.in_ok-push.ensures.items
