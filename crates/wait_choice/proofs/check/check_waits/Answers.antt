use Rattle.wait_choice.proofs.Passing.{best_where, only_where, passes_where}
use Rattle.wait_choice.proofs.check.check_waits.Goals as goal

pub returns-clause-passes : goal.returns-clause-passes
returns-clause-passes c =
    passes_where c.in_ok-problem.problem _ c.args.penalty c.args.text.now c.in_ok-problem.ensures.forward
    c.in_ok-problem.ensures.read.1
    c.in_ok-first_broken_rule.field-0 c.in_ok-first_broken_rule.ensures

pub returns-clause-only : goal.returns-clause-only
returns-clause-only c =
    only_where c.in_ok-problem.problem _ c.args.penalty c.args.text.now c.in_ok-problem.ensures.forward
    c.in_ok-problem.ensures.rise
    c.in_ok-problem.ensures.read.1 c.in_ok-first_broken_rule.field-0 c.in_ok-first_broken_rule.ensures

pub returns-clause-best : goal.returns-clause-best
returns-clause-best c =
    best_where c.in_ok-problem.problem _ c.args.penalty c.args.text.now c.in_ok-problem.ensures.forward
    c.in_ok-problem.ensures.read.1
    c.in_ok-first_broken_rule.field-0 c.in_ok-first_broken_rule.ensures
