use Rattle.plan_num.proofs.Common.{◌≡◌, ◌-◌, arith, ap, ◌∙◌, length, filter, Option, Some}
use Rattle.plan_num.proofs.Common.{slice_get, option_or}
use Rattle.tables.specs.declared.counted.Counted.TheVariants as counted
use Rattle.tables.specs.declared.row_limit.RowLimit.{RowLimit}
use Rattle.tables.proofs.Common.{records_by, too_many_rows}
use Rattle.event_tables.specs.Cells.{schedule_row}
use Rattle.event_tables.specs.Schedules.{is_trip_row, is_empty_row}
use Rattle.event_tables.proofs.ScheduleRows.{both_kinds, first_of_two}
use Rattle.event_tables.proofs.schedule_file.too_many_of_a_kind.Goals as goal

pub overflow_sub-len : goal.overflow_sub-len
overflow_sub-len c = let both = both_kinds c.args.table.now in omega (arith, both, c.len.ensures.len, c.count_empty-empty.ensures)

pub returns : goal.returns
returns c =
    let rows = records_by schedule_row c.args.table.now in
    let limit : Option RowLimit = Some (record { what = counted.Trips; most = 2000 }) in
    let both = both_kinds c.args.table.now in
    let trips : c.len.result - c.count_empty-empty.result
    ≡ length (filter is_trip_row rows) = omega (arith, both, c.len.ensures.len, c.count_empty-empty.ensures) in
    c.or.ensures
    ∙ ap (λ first. option_or first c.too_many-2.result) (c.too_many.ensures ∙ ap
    (λ n. slice_get (too_many_rows limit n) 0) trips)
    ∙ ap (option_or (slice_get (too_many_rows limit (length (filter is_trip_row rows))) 0))
    (c.too_many-2.ensures ∙ ap (λ n. slice_get (too_many_rows limit n) 0) c.count_empty-empty.ensures)
    ∙ first_of_two (too_many_rows limit (length (filter is_trip_row rows)))
    (too_many_rows limit (length (filter is_empty_row rows)))
