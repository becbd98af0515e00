use Rattle.plan_tests.proofs.certificates.fault_of.Goals as goal

pub check_tree-requires : goal.check_tree-requires
check_tree-requires c = c.in_ok-tree.ensures.names
