use Rattle.plan_num.proofs.Common.{◌+◌, ◌++◌, ◌∷◌, [], ap, get_or, sym, ◌∙◌, arith, List, ℕ}
use Rattle.event_tables.specs.declared.disposed_time.DisposedTime.{DisposedTime}
use Rattle.delay_management.proofs.WrittenRows.{row_more, rows_whole}
use Rattle.delay_management.proofs.files.time_rows.Goals as goal

abbrev time_row : ℕ × ℕ → DisposedTime
time_row at = record { event = at.0; time = at.1 }

pub loop-index-preserved : goal.loop-index-preserved
loop-index-preserved c =
    let times = c.args.times.now in
    let i = c.loop-index.index in
    c.in_ok-push.ensures.items
    ∙ ap (λ (rows : List DisposedTime). rows ++ time_row (i + 1, get_or times i 0) ∷ []) c.loop-index.invariant
    ∙ sym (row_more time_row times i 0 (omega (arith, c.loop-index-test.true)))

pub returns : goal.returns
returns c =
    c.loop-index.invariant ∙ rows_whole time_row c.args.times.now c.loop-index.index
    (omega (arith, c.loop-index-test.false))
