-- The marks so far are those of the first events.
use Rattle.plan_num.proofs.Common.{◌≡◌, ◌&&◌, map, nat_eq, range_with_len}
use Rattle.propagation.specs.LeastTimes.{time_at}
use Rattle.propagation.specs.Marks.{is_source}
use Rattle.propagation.specs.Reasons.{reason_for}
use Rattle.propagation.proofs.wrong_reasons.right_alone.Given as goal

abbrev pub invariant-loop-event : goal.invariant-loop-event
invariant-loop-event l =
    l.marks.items ≡ map (λ event. is_source (reason_for l.reasons event)
    && nat_eq (time_at l.times event) (time_at l.earliest event)) (range_with_len 0 l.event)
