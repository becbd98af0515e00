use Rattle.plan_num.proofs.Common.{arith, ℕ, Bool, nat_lt}
use Rattle.propagation.specs.LeastTimes.{time_at}
use Rattle.propagation.proofs.Places.{told_more}
use Rattle.propagation.proofs.early.early_alone.Goals as goal

pub loop-event-preserved : goal.loop-event-preserved
loop-event-preserved c =
    let f : ℕ → Bool = λ event. nat_lt (time_at c.args.times.now event) (time_at c.args.earliest.now event) in
    grind (arith, told_more)
