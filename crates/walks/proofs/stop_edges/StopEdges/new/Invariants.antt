-- No index is noted before the first edge, and then those of the edges so far.
use Rattle.plan_num.proofs.Common.{◌≡◌, [], All, length, map, values_of}
use Rattle.walks.proofs.Noting.{NotedTo}
use Rattle.walks.proofs.stop_edges.StopEdges.new.Given as goal

abbrev pub invariant-loop-stop : goal.invariant-loop-stop
invariant-loop-stop l =
    record {
      size : length l.rows.items ≡ l._stop;
      empty : All (λ row. row ≡ []) (map (λ row. row.items) l.rows.items);
    }

abbrev pub invariant-loop-index : goal.invariant-loop-index
invariant-loop-index l = NotedTo (values_of l.edges.entries) l.stops l.index
    (map (λ row. row.items) l.rows.items)
