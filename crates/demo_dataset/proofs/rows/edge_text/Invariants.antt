use Rattle.plan_num.proofs.Common.{◌≡◌, take, flat_map}
use Rattle.demo_dataset.specs.Rows.{edge_row}
use Rattle.demo_dataset.proofs.rows.edge_text.Given as goal

-- the rows of the edges so far
abbrev pub invariant-loop-edge : goal.invariant-loop-edge
invariant-loop-edge l = l.text.items ≡ flat_map edge_row (take l.edge-index l.edges)
