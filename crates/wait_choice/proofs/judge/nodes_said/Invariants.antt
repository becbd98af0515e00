-- The first rows are told.
use Rattle.std.proofs.Common.{◌≡◌, map, take}
use Rattle.wait_choice.specs.Judged.{node_said}
use Rattle.wait_choice.proofs.judge.nodes_said.Given as goal

abbrev pub invariant-loop-row : goal.invariant-loop-row
invariant-loop-row l = l.nodes.items ≡ take l.row-index (map (node_said l.problem.changes) l.rows)
