use Rattle.plan_num.proofs.Common.{◌+◌, ◌++◌, ◌∷◌, [], ap, get_or, sym, ◌∙◌, arith, List}
use Rattle.event_tables.specs.declared.periodic_time.PeriodicTime.{PeriodicTime}
use Rattle.pesp_search.proofs.RowsOfTimes.{row_more, rows_whole}
use Rattle.pesp_search.proofs.files.time_rows.Goals as goal

pub loop-index-preserved : goal.loop-index-preserved
loop-index-preserved c =
    let times = c.args.times.now in
    let i = c.loop-index.index in
    let row : PeriodicTime = record { event = i + 1; time = get_or times i 0 } in
    c.in_ok-push.ensures.items
    ∙ ap (λ (rows : List PeriodicTime). rows ++ row ∷ []) c.loop-index.invariant
    ∙ sym (row_more times i (omega (arith, c.loop-index-test.true)))

pub returns : goal.returns
returns c =
    c.loop-index.invariant
    ∙ rows_whole c.args.times.now c.loop-index.index (omega (arith, c.loop-index-test.false))
