use Rattle.branch_certificate.proofs.WriteLines.{small_splits}
use Rattle.plan_tests.proofs.tree_texts.written.Goals as goal

pub write_tree-requires-clause-names : goal.write_tree-requires-clause-names
write_tree-requires-clause-names c = c.in_ok-tree.ensures.names

pub write_tree-requires-clause-small : goal.write_tree-requires-clause-small
write_tree-requires-clause-small c = small_splits c.in_ok-tree.tree c.in_ok-tree.ensures.written
