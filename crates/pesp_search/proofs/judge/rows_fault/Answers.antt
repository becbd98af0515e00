use Rattle.plan_num.proofs.Common.{◌<◌, All, sym, subst, ◌∙◌}
use Rattle.event_tables.proofs.Common.{periodic_time}
use Rattle.tables.proofs.Common.{records_by}
use Rattle.pesp_search.proofs.JudgedTimes.{in_order}
use Rattle.pesp_search.proofs.judge.rows_fault.Goals as goal

pub first_violated-requires-clause-within : goal.first_violated-requires-clause-within
first_violated-requires-clause-within c =
    let order = sym c.are_in_order.ensures ∙ c.if-not-are_in_order.false in
    subst (All (λ time. time < c.args.pesp.now.period))
    (sym (c.deref.ensures.value ∙ c.in_ok-times.ensures))
    (in_order c.args.pesp.now (records_by periodic_time c.args.table.now) order).within
