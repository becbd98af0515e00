use Rattle.plan_num.proofs.Common.{◌&&◌, ℕ, Bool, nat_eq}
use Rattle.propagation.specs.LeastTimes.{time_at}
use Rattle.propagation.specs.Marks.{is_source}
use Rattle.propagation.specs.Reasons.{reason_for}
use Rattle.propagation.proofs.Places.{told_more}
use Rattle.propagation.proofs.wrong_reasons.right_alone.Goals as goal

pub loop-event-preserved : goal.loop-event-preserved
loop-event-preserved c =
    let reasons = c.args.reasons.now in
    let f : ℕ → Bool = λ event. is_source (reason_for reasons event)
    && nat_eq (time_at c.args.times.now event) (time_at c.args.earliest.now event) in
    told_more f c.loop-event.event c.loop-event.marks.items c.push.new.self.items c.is_own.result
    c.in_ok-push.ensures.items c.loop-event.invariant c.is_own.ensures
