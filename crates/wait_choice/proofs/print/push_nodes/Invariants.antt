-- The rows of the first nodes stand behind those that were there.
use Rattle.std.proofs.Common.{◌≡◌, ◌++◌, map, take, All}
use Rattle.wait_choice.specs.PrintedRows.{RowFits}
use Rattle.wait_choice.specs.WaitTexts.{node_row}
use Rattle.wait_choice.proofs.print.push_nodes.Given as goal

abbrev pub invariant-loop-index : goal.invariant-loop-index
invariant-loop-index l = record {
  told : l.rows.items ≡ l.fn.rows.items ++ take l.index (map (node_row l.problem.changes) l.tree);
  fit : All RowFits l.rows.items;
}
