use Rattle.plan_num.proofs.Common.{sym, ◌∙◌}
use Rattle.propagation.proofs.Common.{chosen_changes}
use Rattle.delay_management.proofs.JudgedFaults.{as_rows_told, not_table}
use Rattle.delay_management.proofs.judge.first_fault.Goals as goal

pub returns-in-None : goal.returns-in-None
returns-in-None c =
    not_table c.args.problem.now (chosen_changes c.args.problem.now c.args.kept.now) c.args.times.now c.args.reasons.now
    (sym c.in-None.is ∙ c.in_ok-time_table.ensures.read)

pub returns-in-Some : goal.returns-in-Some
returns-in-Some c =
    as_rows_told c.args.problem.now (chosen_changes c.args.problem.now c.args.kept.now) c.args.times.now
    c.args.reasons.now c.in-Some.table
    (sym c.in-Some.is ∙ c.in_ok-time_table.ensures.read) c.rows_fault.result c.rows_fault.ensures
