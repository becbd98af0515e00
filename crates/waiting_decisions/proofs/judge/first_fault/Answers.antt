use Rattle.plan_num.proofs.Common.{pos, refl, arith}
use Rattle.waiting_decisions.specs.declared.node.WaitNode.TheVariants as node
use Rattle.waiting_decisions.proofs.JudgedNodes.{at_end, at_start, node_fails, node_fits}
use Rattle.waiting_decisions.proofs.judge.first_fault.Goals as goal

pub loop-node-init : goal.loop-node-init
loop-node-init c =
    at_start c.args.problem.now c.args.penalty (pos c.args.cost) c.args.nodes.now
    c.in_ok-walk.walk c.in_ok-walk.ensures.value

pub returns-then-not-branch-clause-first : goal.returns-then-not-branch-clause-first
returns-then-not-branch-clause-first c = grind (arith, node_fails)

pub loop-node-preserved : goal.loop-node-preserved
loop-node-preserved c =
    node_fits c.args.problem.now c.args.penalty (pos c.args.cost) c.args.nodes.now
    c.loop-node.walk c.take.new.self c.loop-node.node-index (node.Split 0) _ c.loop-node.invariant
    c.loop-node-test.true refl c.in_ok-take.field-0 c.if-not-branch.false c.in_ok-take.ensures

pub returns-clause-first : goal.returns-clause-first
returns-clause-first c = grind (arith, at_end)
