use Rattle.plan_num.proofs.Common.{◌≡◌, ◌-◌, ◌++◌, flat_map}
use Rattle.demo_dataset.specs.Grid.{one_to, row_edges}
use Rattle.demo_dataset.proofs.edge.push_rows.Given as goal

-- the edges of the rows so far are there
abbrev pub invariant-loop-row : goal.invariant-loop-row
invariant-loop-row l = l.edges.items
    ≡ l.initial.edges.items ++ flat_map (row_edges l.size) (one_to (l.row - 1))
