use Rattle.plan_num.proofs.Common.{◌≡◌, ◌-◌, ◌++◌, flat_map}
use Rattle.demo_dataset.specs.Grid.{one_to, column_edges}
use Rattle.demo_dataset.proofs.edge.push_columns.Given as goal

-- the edges of the columns so far are there
abbrev pub invariant-loop-column : goal.invariant-loop-column
invariant-loop-column l = l.edges.items
    ≡ l.initial.edges.items ++ flat_map (column_edges l.size) (one_to (l.column - 1))
