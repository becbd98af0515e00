-- The ids are the least ones of the rides so far, and behind them of the chosen changes so far.
use Rattle.plan_num.proofs.Common.{◌≡◌, ◌++◌, length, map, take, items_where_true, range_with_len}
use Rattle.plan_num.proofs.Common.{reduce}
use Rattle.propagation.specs.Reasons.{lesser, tight_among}
use Rattle.propagation.proofs.reasons.least_tight.Given as goal

abbrev pub invariant-loop-ride : goal.invariant-loop-ride
invariant-loop-ride l =
    l.ids.items ≡ map (λ event. reduce lesser (tight_among l.times event (take l.ride-index l.rides)))
    (range_with_len 0 (length l.times))

abbrev pub invariant-loop-index : goal.invariant-loop-index
invariant-loop-index l =
    l.ids.items ≡ map (λ event. reduce lesser
    (tight_among l.times event (l.rides ++ items_where_true l.kept (take l.index l.changes))))
    (range_with_len 0 (length l.times))
