use Rattle.plan_num.proofs.Common.{◌∙◌, map, pos, ap, sym, option_map}
use Rattle.waiting_decisions.specs.TreeFaults.{first_fault}
use Rattle.wait_choice.specs.Judged.{node_said, rule_of}
use Rattle.wait_choice.proofs.Judging.{fault_rule, some_items}
use Rattle.wait_choice.proofs.judge.nodes_rule.Goals as goal

pub returns : goal.returns
returns c =
    let problem = c.args.problem.now in
    let nodes = map (node_said problem.changes) c.args.nodes.now in
    c.rule_of.ensures
    ∙ ap (option_map rule_of) (c.in_ok-fault.ensures.first
    ∙ ap (first_fault problem c.args.penalty (pos c.args.cost))
    (c.deref.ensures.value ∙ c.in_ok-said.ensures))
    ∙ fault_rule problem c.args.penalty (pos c.args.cost) nodes
    (some_items (node_said problem.changes) c.args.nodes.now (sym c.if-is_empty.ensures))
