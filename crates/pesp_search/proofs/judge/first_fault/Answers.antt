use Rattle.plan_num.proofs.Common.{sym, ◌∙◌}
use Rattle.pesp_search.proofs.JudgedTimes.{as_rows_told, not_table}
use Rattle.pesp_search.proofs.judge.first_fault.Goals as goal

pub returns-in-None : goal.returns-in-None
returns-in-None c =
    not_table c.args.pesp.now c.args.text.now (sym c.in-None.is ∙ c.in_ok-time_table.ensures.read)

pub returns-in-Some : goal.returns-in-Some
returns-in-Some c =
    as_rows_told c.args.pesp.now c.args.text.now c.in-Some.table
    (sym c.in-Some.is ∙ c.in_ok-time_table.ensures.read) c.rows_fault.result c.rows_fault.ensures
