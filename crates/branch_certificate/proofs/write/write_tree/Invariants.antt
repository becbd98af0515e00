-- The lines of the nodes so far, each of which can be written.
use Rattle.plan_num.proofs.Common.{◌≡◌, ◌++◌, ◌∷◌, All, take, flat_map}
use Rattle.tables.proofs.Common.{tree_columns, line_text}
use Rattle.branch_certificate.specs.TreeTexts.{CanBeWritten, node_rows, tree_header}
use Rattle.branch_certificate.proofs.write.write_tree.Given as goal

abbrev pub invariant-loop-i : goal.invariant-loop-i
invariant-loop-i l = record {
  lines : l.bytes.items ≡ tree_header
      ++ 10 ∷ flat_map (line_text tree_columns) (flat_map (node_rows l.problem) (take l.i l.tree));
  written : All CanBeWritten (take l.i l.tree);
}
