use Rattle.plan_num.proofs.Common.{◌≡◌, ◌-◌, ◌++◌, map}
use Rattle.demo_dataset.specs.Grid.{one_to, edge_down}
use Rattle.demo_dataset.proofs.edge.push_column.Given as goal

-- the edges up to this row are there
abbrev pub invariant-loop-row : goal.invariant-loop-row
invariant-loop-row l = l.edges.items
    ≡ l.initial.edges.items ++ map (edge_down l.size l.column) (one_to (l.row - 1))
