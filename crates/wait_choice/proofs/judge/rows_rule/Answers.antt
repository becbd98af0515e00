use Rattle.std.proofs.Common.{◌≡◌, ◌∙◌, length, map, take, drop, pos, slice_get, ap, sym}
use Rattle.std.specs.Ordering.{int_eq}
use Rattle.waiting_decisions.specs.Choices.{cost_of}
use Rattle.wait_choice.specs.Judged.{broken_nodes, broken_rows, keeps, node_said}
use Rattle.wait_choice.proofs.Judging.{rows_nodes}
use Rattle.wait_choice.proofs.ListItems.{drop_twice, rest_all}
use Rattle.waiting_decisions.proofs.Turns.{outcome_by}
use Rattle.wait_choice.proofs.judge.rows_rule.Goals as goal

pub returns : goal.returns
returns c =
    let problem = c.args.problem.now in
    let changes = problem.changes in
    let rows = c.args.rows.now in
    let count = c.change_count.ensures.count in
    let behind = rest_all rows 1 in
    let choices = c.split_at.ensures.front ∙ (λ i. take (count i) (behind i)) in
    let nodes = c.split_at.ensures.back ∙ (λ i. drop (count i) (behind i)) ∙ drop_twice (length changes) rows in
    let cost = c.cost_in-cost.ensures in
    let costs = (λ i. int_eq (pos (sym cost i)) (cost_of problem c.args.penalty (map keeps (sym choices i))))
    ∙ sym c.in_ok-costs.ensures ∙ c.if-not-branch.false in
    outcome_by _ (λ answer. answer ≡ slice_get (broken_rows problem c.args.penalty rows) 0) c.nodes_rule.result
    c.nodes_rule.ensures
    (λ answer is. is
    ∙ (λ i. slice_get (broken_nodes problem c.args.penalty (pos (cost i)) (map (node_said changes) (nodes i))) 0)
    ∙ ap (λ all. slice_get all 0) (rows_nodes problem c.args.penalty rows (sym c.if-not-is_shaped.ensures) costs))
