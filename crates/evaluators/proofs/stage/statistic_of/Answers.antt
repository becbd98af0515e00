use Rattle.plan_num.proofs.Common.{◌≡◌, [], ap, subst, sym, ◌∙◌, length, None, err_from_is_err_and}
use Rattle.tables.proofs.Common.{Refuses, input_faults, records_of}
use Rattle.event_tables.proofs.Common.{trip_input}
use Rattle.evaluators.specs.StatisticStage.{day_faults, day_in, day_part, line_faults, line_part, lines_in}
use Rattle.evaluators.specs.StatisticStage.{periodic_faults, periodic_in, periodic_part, trip_part}
use Rattle.evaluators.proofs.StageParts.{all_none, day_refuses, lines_refuse, periodic_refuses, statistic_is}
use Rattle.evaluators.proofs.StageParts.{trips_refuse}
use Rattle.evaluators.proofs.stage.statistic_of.Goals as goal

pub returns-in_err-lines : goal.returns-in_err-lines
returns-in_err-lines c =
    let p = err_from_is_err_and c.from_residual.result c.from_residual.ensures.1 in
    let f = c.in_err-lines.field-0.0 in
    rw (p.1, p.2) (lines_refuse c.args.bundle.now f
    (subst (λ all. Refuses all f) (λ i. line_faults (c.input.ensures i) (c.input-2.ensures i))
    c.in_err-lines.ensures))

pub returns-in_err-periodic : goal.returns-in_err-periodic
returns-in_err-periodic c =
    let p = err_from_is_err_and c.from_residual-in_err-periodic.result
    c.from_residual-in_err-periodic.ensures.1 in
    let f = c.in_err-periodic.field-0.0 in
    let b = c.args.bundle.now in
    let none_lines : line_part b ≡ [] =
    (λ i. line_faults (sym c.input.ensures i) (sym c.input-2.ensures i)) ∙ c.in_ok-lines.ensures.0
    in
    rw (p.1, p.2) (periodic_refuses b none_lines f (subst (λ all. Refuses all f)
    (λ i. periodic_faults (c.period_of.ensures.value i) (c.input-3.ensures i) (c.input-4.ensures i)
    (c.input-5.ensures i)) c.in_err-periodic.ensures))

pub returns-in_err-trips : goal.returns-in_err-trips
returns-in_err-trips c =
    let p = err_from_is_err_and c.from_residual-in_err-trips.result
    c.from_residual-in_err-trips.ensures.1 in
    let f = c.in_err-trips.field-0.0 in
    let b = c.args.bundle.now in
    let none_lines : line_part b ≡ [] =
    (λ i. line_faults (sym c.input.ensures i) (sym c.input-2.ensures i)) ∙ c.in_ok-lines.ensures.0
    in
    let none_periodic : periodic_part b ≡ [] =
    (λ i. periodic_faults (sym c.period_of.ensures.value i) (sym c.input-3.ensures i)
    (sym c.input-4.ensures i) (sym c.input-5.ensures i)) ∙ c.in_ok-periodic.ensures.0 in
    rw (p.1, p.2) (trips_refuse b none_lines none_periodic f (subst (λ all. Refuses all f)
    (λ i. input_faults (trip_input None) (c.input-6.ensures i)) c.in_err-trips.ensures.read))

pub returns-in_err-day : goal.returns-in_err-day
returns-in_err-day c =
    let p = err_from_is_err_and c.from_residual-in_err-day.result
    c.from_residual-in_err-day.ensures.1 in
    let f = c.in_err-day.field-0.0 in
    let b = c.args.bundle.now in
    let none_lines : line_part b ≡ [] =
    (λ i. line_faults (sym c.input.ensures i) (sym c.input-2.ensures i)) ∙ c.in_ok-lines.ensures.0
    in
    let none_periodic : periodic_part b ≡ [] =
    (λ i. periodic_faults (sym c.period_of.ensures.value i) (sym c.input-3.ensures i)
    (sym c.input-4.ensures i) (sym c.input-5.ensures i)) ∙ c.in_ok-periodic.ensures.0 in
    let none_trips : trip_part b ≡ [] =
    (λ i. input_faults (trip_input None) (sym c.input-6.ensures i)) ∙ c.in_ok-trips.ensures.read.0
    in
    rw (p.1, p.2) (day_refuses b none_lines none_periodic none_trips f (subst (λ all. Refuses all f)
    (λ i. day_faults (c.input-7.ensures i) (c.input-8.ensures i) (c.input-9.ensures i)
    (c.input-10.ensures i)) c.in_err-day.ensures))

pub returns : goal.returns
returns c =
    let b = c.args.bundle.now in
    let none_lines : line_part b ≡ [] =
    (λ i. line_faults (sym c.input.ensures i) (sym c.input-2.ensures i)) ∙ c.in_ok-lines.ensures.0
    in
    let none_periodic : periodic_part b ≡ [] =
    (λ i. periodic_faults (sym c.period_of.ensures.value i) (sym c.input-3.ensures i)
    (sym c.input-4.ensures i) (sym c.input-5.ensures i)) ∙ c.in_ok-periodic.ensures.0 in
    let none_trips : trip_part b ≡ [] =
    (λ i. input_faults (trip_input None) (sym c.input-6.ensures i)) ∙ c.in_ok-trips.ensures.read.0
    in
    let none_day : day_part b ≡ [] =
    (λ i. day_faults (sym c.input-7.ensures i) (sym c.input-8.ensures i) (sym c.input-9.ensures i)
    (sym c.input-10.ensures i)) ∙ c.in_ok-day.ensures.0 in (
      all_none b none_lines none_periodic none_trips none_day,
      statistic_is b _ _ _ _ c.vehicle_costs.result c.empty_costs.result _
          (c.in_ok-lines.ensures.1 ∙ (λ i. lines_in (c.input.ensures i) (c.input-2.ensures i)))
          (c.in_ok-periodic.ensures.1 ∙ (λ i. periodic_in (c.period_of.ensures.value i)
          (c.input-3.ensures i) (c.input-4.ensures i) (c.input-5.ensures i)))
          (c.trip_count.ensures ∙ ap length (c.deref.ensures.value ∙ c.in_ok-trips.ensures.read.1
          ∙ ap (records_of (trip_input None)) c.input-6.ensures))
          (c.in_ok-day.ensures.1 ∙ (λ i. day_in (c.input-7.ensures i) (c.input-8.ensures i)
          (c.input-9.ensures i) (c.input-10.ensures i)))
          c.vehicle_costs.ensures.value c.empty_costs.ensures.value c.schedule_cost.ensures,
    )
