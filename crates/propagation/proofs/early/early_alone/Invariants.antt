-- The marks so far are those of the first events.
use Rattle.plan_num.proofs.Common.{◌≡◌, map, nat_lt, range_with_len}
use Rattle.propagation.specs.LeastTimes.{time_at}
use Rattle.propagation.proofs.early.early_alone.Given as goal

abbrev pub invariant-loop-event : goal.invariant-loop-event
invariant-loop-event l =
    l.marks.items ≡ map (λ event. nat_lt (time_at l.times event) (time_at l.earliest event)) (range_with_len 0 l.event)
