-- The last edges are those among the edges so far.
use Rattle.plan_num.proofs.Common.{◌≡◌, ◌<◌, ℕ, length, get_or, take, None}
use Rattle.walks.specs.Paths.{last_edge, length_to}
use Rattle.walks.proofs.paths.last_edges.Given as goal

abbrev pub invariant-loop-index : goal.invariant-loop-index
invariant-loop-index l =
    record {
      size : length l.last.items ≡ length l.network.stops;
      told : (to : ℕ) → to < length l.network.stops
          → get_or l.last.items to None ≡ last_edge (take l.index l.network.edges)
          (length_to l.lengths) to;
    }
