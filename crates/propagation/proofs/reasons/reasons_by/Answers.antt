use Rattle.plan_num.proofs.Common.{arith, ℕ, get_or}
use Rattle.propagation.specs.declared.reason.Reason.{Reason}
use Rattle.propagation.proofs.Places.{told_more}
use Rattle.propagation.proofs.reasons.reasons_by.Goals as goal

pub loop-event-preserved : goal.loop-event-preserved
loop-event-preserved c =
    let f : ℕ → Reason = λ event. grind (arith, get_or) in grind (arith, told_more)
