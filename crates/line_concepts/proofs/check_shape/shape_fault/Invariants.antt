use Rattle.plan_num.proofs.Common.{◌≡◌, ◌≤◌, suc, drop}
use Rattle.line_concepts.proofs.Shapes.{behind}
use Rattle.line_concepts.proofs.check_shape.shape_fault.Given as goal

-- behind the trees that are to come stand the nodes that stand behind the first tree
abbrev pub invariant-loop-place : goal.invariant-loop-place
invariant-loop-place l = record {
  behind : behind 1 l.tree ≡ behind (suc l.waiting) (drop l.place l.tree);
  few : l.waiting ≤ l.place;
}
