use Rattle.plan_num.proofs.Common.{arith, ◌≡◌, [], ap, subst, sym, ◌∙◌, err_from_is_err_and}
use Rattle.tables.proofs.Common.{input_faults, records_of}
use Rattle.giv_files.proofs.Common.{input_text}
use Rattle.event_tables.proofs.Common.{periodic_activity_input, periodic_event_ids}
use Rattle.roll_out.proofs.FilesRead.{events_refused, activities_refused, times_refused, all_fine, network_is}
use Rattle.roll_out.proofs.network.TimedNetwork.of_bundle.Goals as goal

pub returns-in_err-events-clause-read : goal.returns-in_err-events-clause-read
returns-in_err-events-clause-read c =
    let p = err_from_is_err_and c.from_residual.result c.from_residual.ensures.1 in grind (
      arith,
      events_refused,
    )

pub returns-in_err-activities-clause-read : goal.returns-in_err-activities-clause-read
returns-in_err-activities-clause-read c =
    let p = err_from_is_err_and c.from_residual-in_err-activities.result
    c.from_residual-in_err-activities.ensures.1 in
    let read = rw c.input.ensures at c.in_ok-events.ensures.read in
    rw (p.1, p.2) (activities_refused c.args.bundle.now c.deref.result.now read.0
    (c.deref.ensures.value ∙ read.1) c.in_err-activities.field-0.0
    (rw c.input-2.ensures at c.in_err-activities.ensures.read))

pub returns-in_err-times-clause-read : goal.returns-in_err-times-clause-read
returns-in_err-times-clause-read c =
    let p = err_from_is_err_and c.from_residual-in_err-times.result
    c.from_residual-in_err-times.ensures.1 in
    let read = rw c.input.ensures at c.in_ok-events.ensures.read in
    let rows = rw c.input-2.ensures at c.in_ok-activities.ensures.read in
    let same = c.deref.ensures.value ∙ sym c.deref-2.ensures.value in
    rw (p.1, p.2) (times_refused c.args.bundle.now c.deref-2.result.now read.0
    (c.deref-2.ensures.value ∙ read.1)
    (subst (λ some. input_faults (periodic_activity_input (periodic_event_ids some))
    (input_text c.args.bundle.now 1) ≡ []) same rows.0) c.period_of-period.result
    c.period_of-period.ensures.value c.in_err-times.field-0.0
    (rw c.input-3.ensures at c.in_err-times.ensures.read))

pub returns-clause-read : goal.returns-clause-read
returns-clause-read c =
    let read = rw c.input.ensures at c.in_ok-events.ensures.read in
    let rows = rw c.input-2.ensures at c.in_ok-activities.ensures.read in
    let times = rw c.input-3.ensures at c.in_ok-times.ensures.read in
    let same = c.deref.ensures.value ∙ sym c.deref-2.ensures.value in
    let fine = subst (λ some. input_faults (periodic_activity_input (periodic_event_ids some))
    (input_text c.args.bundle.now 1) ≡ []) same rows.0 in (
      all_fine c.args.bundle.now c.deref-2.result.now read.0 (c.deref-2.ensures.value ∙ read.1)
          fine c.period_of-period.result c.period_of-period.ensures.value times.0,
      ap (λ some. record {
        period = c.period_of-period.result;
        events = some;
        activities = c.in_ok-activities.activities.items;
        times = c.in_ok-times.times.items;
      })
          (sym c.deref-2.ensures.value)
          ∙ network_is c.args.bundle.now c.deref-2.result.now read.0
          (c.deref-2.ensures.value ∙ read.1)
          fine c.period_of-period.result c.period_of-period.ensures.value
          c.in_ok-activities.activities.items c.in_ok-times.times.items
          (rows.1 ∙ ap (λ some. records_of (periodic_activity_input (periodic_event_ids some))
          (input_text c.args.bundle.now 1)) same) times.1,
    )
