use Rattle.plan_num.proofs.Common.{arith, ◌≡◌, None, pos}
use Rattle.waiting_decisions.specs.Certified.{Certifies}
use Rattle.waiting_decisions.proofs.JudgedNodes.{fault_least, fault_only, fault_proves}
use Rattle.waiting_decisions.proofs.Turns.{outcome_by}
use Rattle.waiting_decisions.proofs.judge.judge_nodes.Goals as goal

pub returns-clause-proves : goal.returns-clause-proves
returns-clause-proves c = grind (arith, outcome_by, fault_proves)

pub returns-clause-only : goal.returns-clause-only
returns-clause-only c =
    let problem = c.args.problem.now in let nodes = c.args.nodes.now in
    outcome_by _ (λ fault. Certifies problem c.args.penalty (pos c.args.cost) nodes → fault ≡ None)
    c.first_fault.result c.first_fault.ensures.first
    (fault_only problem c.args.penalty (pos c.args.cost) nodes)

pub returns-clause-least : goal.returns-clause-least
returns-clause-least c = grind (arith, outcome_by, fault_least)
