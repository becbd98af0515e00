-- The sum so far, which is no greater than the number of edges allows.
use Rattle.plan_num.proofs.Common.{◌≡◌, ◌*◌, ◌≤◌, map, sum, take}
use Rattle.line_walks.specs.LineLengths.{length_at}
use Rattle.line_pool.proofs.cost_table.length_of.Given as goal

abbrev pub invariant-loop-index : goal.invariant-loop-index
invariant-loop-index l =
    record {
      told : l.sum ≡ sum (map (length_at l.network.edges) (take l.index-index l.edges));
      bounded : l.sum ≤ 9223372036854775808 * l.index-index;
    }
