-- The times so far.
use Rattle.plan_num.proofs.Common.{◌≡◌, map, slice_index_or, range_with_len}
use Rattle.pesp.specs.Marks.{times_from}
use Rattle.pesp.proofs.standing.first_times.Given as goal

abbrev pub invariant-loop-event : goal.invariant-loop-event
invariant-loop-event l =
    l.times.items
    ≡ map (λ event. slice_index_or (times_from l.sets event 0) 0 0) (range_with_len 0 l.event)
