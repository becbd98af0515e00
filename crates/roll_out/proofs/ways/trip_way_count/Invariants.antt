-- What holds before each turn.
use Rattle.plan_num.proofs.Common.{◌≡◌, ◌≤◌, take, sum_by}
use Rattle.roll_out.proofs.WaysCounted.{way_size}
use Rattle.roll_out.proofs.ways.trip_way_count.Given as goal

abbrev pub invariant-loop-at : goal.invariant-loop-at
invariant-loop-at l = record {
  told : l.count ≡ sum_by way_size (take l.at-index l.trip.run);
  few : l.count ≤ l.at-index;
}
