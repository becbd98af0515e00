use Rattle.plan_num.proofs.Common.{◌≡◌, ◌-◌, ◌++◌, map}
use Rattle.demo_dataset.specs.Grid.{one_to, edge_right}
use Rattle.demo_dataset.proofs.edge.push_row.Given as goal

-- the edges up to this column are there
abbrev pub invariant-loop-column : goal.invariant-loop-column
invariant-loop-column l = l.edges.items
    ≡ l.initial.edges.items ++ map (edge_right l.size l.row) (one_to (l.column - 1))
