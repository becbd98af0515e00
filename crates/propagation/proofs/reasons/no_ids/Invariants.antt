-- So far there is no id.
use Rattle.plan_num.proofs.Common.{◌≡◌, None, map, range_with_len}
use Rattle.propagation.proofs.reasons.no_ids.Given as goal

abbrev pub invariant-loop-event : goal.invariant-loop-event
invariant-loop-event l = l.ids.items ≡ map (λ _. None) (range_with_len 0 l._event)
