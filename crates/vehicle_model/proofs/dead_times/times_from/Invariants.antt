-- There are times from each stop so far that is wanted.
use Rattle.plan_num.proofs.Common.{◌≡◌, ◌<◌, ℕ, length, nat_eq, get_or, None, list_any}
use Rattle.vehicle_model.specs.DeadTables.{HasWanted}
use Rattle.vehicle_model.proofs.dead_times.times_from.Given as goal

abbrev pub invariant-loop-stop : goal.invariant-loop-stop
invariant-loop-stop l = record {
  size : length l.times.items ≡ l.stop;
  times : (k : ℕ) → k < l.stop
      → HasWanted l.network k (list_any (nat_eq k) l.wanted) (get_or l.times.items k None);
}
