use Rattle.plan_num.proofs.Common.{arith, subst}
use Rattle.propagation.proofs.Common.{forward_rank}
use Rattle.delay_trials.specs.ChangeEnds.{IsFirst}
use Rattle.delay_trials.proofs.FirstPlaces.{no_first, one_first}
use Rattle.delay_trials.proofs.link_places.first_links.Goals as goal

pub loop-event-init : goal.loop-event-init
loop-event-init c = grind (arith, no_first)

pub loop-event-preserved : goal.loop-event-preserved
loop-event-preserved c =
    one_first (λ link. link.rank) c.args.links.now
    (forward_rank c.args.events.now) c.loop-event.event c.first_link.result
    c.loop-event.firsts.items c.push.new.self.items c.loop-event.invariant
    (subst (λ rank. IsFirst (λ link. link.rank) c.args.links.now rank c.first_link.result) c.forward_rank.ensures
    c.first_link.ensures) c.in_ok-push.ensures.items
