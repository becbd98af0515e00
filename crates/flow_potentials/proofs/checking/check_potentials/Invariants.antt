-- No trip so far is the first one of a short pair.
use Rattle.plan_num.proofs.Common.{◌≡◌, ◌-◌, length, flat_map, range_with_len}
use Rattle.vehicle_model.specs.Trips.{links_of}
use Rattle.flow_potentials.specs.PotentialFaults.{pair_faults, trip_faults}
use Rattle.flow_potentials.proofs.checking.check_potentials.Given as goal

abbrev pub invariant-loop-i : goal.invariant-loop-i
invariant-loop-i l = pair_faults (links_of l.trips) l.potentials
    ≡ flat_map (trip_faults (links_of l.trips) l.potentials)
    (range_with_len l.i (length l.trips.trips - l.i))
