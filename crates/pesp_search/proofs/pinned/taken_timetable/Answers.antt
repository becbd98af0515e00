use Rattle.plan_num.proofs.Common.{◌<◌, All, length, ap, sym, subst, ◌∙◌, err_from_is_err_and}
use Rattle.tables.proofs.Common.{times_p_columns, InColumns}
use Rattle.event_tables.proofs.Common.{periodic_time_cells}
use Rattle.giv_files.proofs.Common.{input_text}
use Rattle.pesp_search.specs.Judged.{times_in}
use Rattle.pesp_search.specs.TimetableStage.{time_rows}
use Rattle.pesp_search.proofs.PinnedLaws.{pinned_within}
use Rattle.pesp_search.proofs.PinnedReads.{times_each, times_within, times_written}
use Rattle.pesp_search.proofs.PinnedResults.{broken_is, not_feasible, problem_refused, times_refused}
use Rattle.pesp_search.proofs.PinnedResults.{times_taken}
use Rattle.pesp_search.proofs.pinned.taken_timetable.Goals as goal

pub returns-in_err-pesp : goal.returns-in_err-pesp
returns-in_err-pesp c =
    let p = err_from_is_err_and c.from_residual.result c.from_residual.ensures.1 in
    rw (p.1, p.2) (problem_refused c.args.bundle.now c.in_err-pesp.field-0.0 c.in_err-pesp.ensures.read)

pub returns-in_err-times : goal.returns-in_err-times
returns-in_err-times c =
    let p = err_from_is_err_and c.from_residual-in_err-times.result
    c.from_residual-in_err-times.ensures.1 in
    rw (p.1, p.2) (times_refused c.args.bundle.now c.in_ok-pesp.ensures.read.0 c.in_err-times.field-0.0
    c.in_err-times.ensures)

pub first_violated-requires-clause-each : goal.first_violated-requires-clause-each
first_violated-requires-clause-each c =
    let bundle = c.args.bundle.now in
    let short = pinned_within bundle c.requires.stage c.requires.fits in
    let problem = c.in_ok-pesp.ensures.read in
    let read = c.in_ok-times.ensures in
    ap length (c.deref.ensures.value ∙ read.1) ∙ times_each bundle short problem.0 read.0
    ∙ ap (λ problem. problem.events) (sym problem.1)

pub first_violated-requires-clause-within : goal.first_violated-requires-clause-within
first_violated-requires-clause-within c =
    let bundle = c.args.bundle.now in
    let short = pinned_within bundle c.requires.stage c.requires.fits in
    let problem = c.in_ok-pesp.ensures in
    let read = c.in_ok-times.ensures in
    subst (All (λ time. time < c.in_ok-pesp.pesp.period)) (sym (c.deref.ensures.value ∙ read.1))
    (subst (λ period. All (λ time. time < period) (times_in (input_text bundle 2))) (sym problem.period)
    (times_within bundle short problem.read.0 read.0))

pub returns-in-Some : goal.returns-in-Some
returns-in-Some c =
    let bundle = c.args.bundle.now in
    let problem = c.in_ok-pesp.ensures.read in
    let read = c.in_ok-times.ensures in
    not_feasible bundle problem.0 read.0 c.in-Some.field-0
    (broken_is bundle c.in_ok-pesp.pesp c.deref.result.now c.first_violated.result _ problem.1
    (c.deref.ensures.value ∙ read.1) c.first_violated.ensures.value c.in-Some.is)

pub times_kept-requires-clause-fit : goal.times_kept-requires-clause-fit
times_kept-requires-clause-fit c =
    let bundle = c.args.bundle.now in
    let short = pinned_within bundle c.requires.stage c.requires.fits in
    let read = c.in_ok-times.ensures in
    subst (λ times. All (λ row. InColumns times_p_columns (periodic_time_cells row)) (time_rows times))
    (sym (c.deref-in-None.ensures.value ∙ read.1))
    (times_written bundle short c.in_ok-pesp.ensures.read.0 read.0)

pub returns : goal.returns
returns c =
    let bundle = c.args.bundle.now in
    let problem = c.in_ok-pesp.ensures.read in
    let read = c.in_ok-times.ensures in
    times_taken bundle problem.0 read.0 c.deref-in-None.result.now c.in_ok-times_kept-in-None.field-0
    (broken_is bundle c.in_ok-pesp.pesp c.deref.result.now c.first_violated.result _ problem.1
    (c.deref.ensures.value ∙ read.1) c.first_violated.ensures.value c.in-None.is)
    (c.deref-in-None.ensures.value ∙ read.1) c.in_ok-times_kept-in-None.ensures
