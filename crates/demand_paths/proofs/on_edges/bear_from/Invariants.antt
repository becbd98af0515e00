-- Those who are left and those who are on an edge are as many as before, and nobody is left at the
-- stops so far.
use Rattle.plan_num.proofs.Common.{◌≡◌, ◌+◌, ◌<◌, ◌≤◌, ℕ, length, get_or}
use Rattle.demand_paths.specs.Wanted.{everyone, goes_over, sum_where, NobodyLeft}
use Rattle.demand_paths.proofs.FarStops.{no_stop}
use Rattle.demand_paths.proofs.on_edges.bear_from.Given as goal

abbrev pub invariant-loop-behind : goal.invariant-loop-behind
invariant-loop-behind l =
    record {
      left : length l.left.items ≡ length l.network.stops;
      loads : length l.loads.items ≡ length l.network.edges;
      all : sum_where everyone 0 l.left.items ≡ sum_where everyone 0 l.customers;
      same : (index : ℕ) → index < length l.network.edges → get_or l.loads.items index 0
          + sum_where (goes_over l.network index l.from) 0 l.left.items
          ≡ get_or l.fn.loads.items index 0
          + sum_where (goes_over l.network index l.from) 0 l.customers;
      nobody : (place : ℕ) → place < length l.stops.items
          → length l.stops.items ≤ place + l.behind
          → NobodyLeft l.network l.from l.left.items (get_or l.stops.items place no_stop).stop;
    }
