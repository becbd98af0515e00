-- The customers of the stops so far are on the edges, and those of the others are still to come.
use Rattle.plan_num.proofs.Common.{◌≡◌, ◌+◌, ◌<◌, ℕ, drop, length, get_or}
use Rattle.demand_paths.specs.Known.{AreKnown}
use Rattle.demand_paths.specs.Wanted.{goes_over, sum_between}
use Rattle.demand_paths.proofs.on_edges.loads_of_wanted.Given as goal

abbrev pub invariant-loop-from : goal.invariant-loop-from
invariant-loop-from l =
    record {
      known : AreKnown l.network l.known;
      size : length l.loads.items ≡ length l.network.edges;
      loads : (index : ℕ) → index < length l.network.edges → get_or l.loads.items index 0
          + sum_between (goes_over l.network index) l.from (drop l.from l.wanted)
          ≡ sum_between (goes_over l.network index) 0 l.wanted;
    }
