use Rattle.plan_num.proofs.Common.{◌++◌, ◌∷◌, [], ap, map, take, sym, ◌∙◌, arith}
use Rattle.event_tables.proofs.Common.{periodic_time}
use Rattle.tables.proofs.Common.{records_by}
use Rattle.pesp_search.proofs.RowsOfTimes.{time_more}
use Rattle.pesp_search.proofs.judge.times_of.Goals as goal

pub loop-row-preserved : goal.loop-row-preserved
loop-row-preserved c =
    let table = c.args.table.now in
    let so_far = take c.loop-row.row (map (λ row. row.time) (records_by periodic_time table)) in
    c.in_ok-push.ensures.items
    ∙ ap (λ times. times ++ c.number.result ∷ []) c.loop-row.invariant
    ∙ ap (λ time. so_far ++ time ∷ []) c.number.ensures
    ∙ sym (time_more table c.loop-row.row (omega (arith, c.loop-row-test.true, c.len-row-end.ensures.len)))
