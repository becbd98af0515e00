-- What holds of the walk and the nodes that are left holds of all nodes.
use Rattle.plan_num.proofs.Common.{pos}
use Rattle.waiting_decisions.proofs.JudgedNodes.{IsAt}
use Rattle.waiting_decisions.proofs.judge.first_fault.Given as goal

abbrev pub invariant-loop-node : goal.invariant-loop-node
invariant-loop-node l = IsAt l.problem l.penalty (pos l.cost) l.nodes l.walk l.node-index
