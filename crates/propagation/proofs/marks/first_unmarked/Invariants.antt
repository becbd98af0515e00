-- The first of the events that are left is the first of all.
use Rattle.plan_num.proofs.Common.{◌≡◌, ◌-◌, false, filter, get_or, length, not, range_with_len}
use Rattle.propagation.proofs.marks.first_unmarked.Given as goal

abbrev pub invariant-loop-event : goal.invariant-loop-event
invariant-loop-event l =
    filter (λ event. not (get_or l.marks event false)) (range_with_len 0 (length l.marks))
    ≡ filter (λ event. not (get_or l.marks event false)) (range_with_len l.event (length l.marks - l.event))
