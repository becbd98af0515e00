-- No pair so far is short.
use Rattle.plan_num.proofs.Common.{◌≡◌, ◌-◌, filter, length, range_with_len}
use Rattle.vehicle_model.specs.Trips.{links_of}
use Rattle.flow_potentials.specs.PotentialFaults.{is_short_pair}
use Rattle.flow_potentials.proofs.checking.short_pair.Given as goal

abbrev pub invariant-loop-j : goal.invariant-loop-j
invariant-loop-j l =
    filter (is_short_pair (links_of l.trips) l.potentials l.i) (range_with_len 0 (length l.trips.trips))
    ≡ filter (is_short_pair (links_of l.trips) l.potentials l.i)
    (range_with_len l.j (length l.trips.trips - l.j))
