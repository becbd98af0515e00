use Rattle.plan_num.proofs.Common.{arith}
use Rattle.branch_certificate.proofs.WriteLines.{small_splits}
use Rattle.line_search.proofs.found.written_tree.Goals as goal

pub write_tree-requires-clause-small : goal.write_tree-requires-clause-small
write_tree-requires-clause-small c = grind (arith, small_splits)
