use Rattle.std.proofs.Common.{◌≡◌, ◌∙◌, slice_get, ap}
use Rattle.wait_choice.specs.Judged.{broken_rows, first_broken_rule}
use Rattle.wait_choice.proofs.Judging.{row_first, rows_first}
use Rattle.waiting_decisions.proofs.Turns.{outcome_by}
use Rattle.wait_choice.proofs.judge.first_broken_rule.Goals as goal

pub returns-in-None : goal.returns-in-None
returns-in-None c = row_first c.args.problem.now c.args.penalty c.args.text.now
    (rw c.in-None.is at c.in_ok-rows_in.ensures)

pub returns-in-Some : goal.returns-in-Some
returns-in-Some c =
    let text = c.args.text.now in
    let problem = c.args.problem.now in
    let read = rw c.in-Some.is at c.in_ok-rows_in.ensures in
    let rows = c.deref.ensures.value ∙ read.1 in
    outcome_by _ (λ answer. answer ≡ first_broken_rule problem c.args.penalty text)
    c.rows_rule.result c.rows_rule.ensures
    (λ answer is. is ∙ ap (λ rows. slice_get (broken_rows problem c.args.penalty rows) 0) rows
    ∙ rows_first problem c.args.penalty text read.0)
