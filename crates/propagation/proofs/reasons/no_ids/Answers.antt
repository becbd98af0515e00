use Rattle.plan_num.proofs.Common.{ℕ, None, Option, refl}
use Rattle.propagation.proofs.Places.{told_more}
use Rattle.propagation.proofs.reasons.no_ids.Goals as goal

pub loop-event-preserved : goal.loop-event-preserved
loop-event-preserved c =
    let nothing : ℕ → Option ℕ = λ _. None in
    told_more nothing c.loop-event._event c.loop-event.ids.items c.push.new.self.items None
    c.in_ok-push.ensures.items c.loop-event.invariant refl
