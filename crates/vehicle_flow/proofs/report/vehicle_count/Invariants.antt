-- The links so far.
use Rattle.vehicle_flow.proofs.VehicleCounts.{AreLinksBefore}
use Rattle.vehicle_flow.proofs.report.vehicle_count.Given as goal

abbrev pub invariant-loop-i : goal.invariant-loop-i
invariant-loop-i l = AreLinksBefore l.plan l.i l.links
