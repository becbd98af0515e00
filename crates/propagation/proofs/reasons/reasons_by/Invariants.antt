-- The reasons so far are those of the first events.
use Rattle.plan_num.proofs.Common.{◌≡◌, None, get_or, map, range_with_len}
use Rattle.propagation.specs.TightIds.{reason_by}
use Rattle.propagation.proofs.reasons.reasons_by.Given as goal

abbrev pub invariant-loop-event : goal.invariant-loop-event
invariant-loop-event l =
    l.reasons.items ≡ map (λ event. reason_by l.earliest l.times event (get_or l.ids event None))
    (range_with_len 0 l.event)
