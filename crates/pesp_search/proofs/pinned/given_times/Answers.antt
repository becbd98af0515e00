use Rattle.plan_num.proofs.Common.{map, ap, sym, subst, ◌∙◌, err_from_is_err_and}
use Rattle.tables.proofs.Common.{Refuses}
use Rattle.pesp_search.specs.Judged.{times_in}
use Rattle.pesp_search.proofs.PinnedResults.{events_fine, same_faults}
use Rattle.pesp_search.proofs.pinned.given_times.Goals as goal

pub returns-in_err-events : goal.returns-in_err-events
returns-in_err-events c =
    let p = err_from_is_err_and c.from_residual.result c.from_residual.ensures.1 in
    rw (p.1, p.2) (events_fine c.args.bundle.now c.requires.read c.input.result.now c.input.ensures _ c.in_err-events.field-0.0
    c.in_err-events.ensures.read)

pub returns-in_err-rows : goal.returns-in_err-rows
returns-in_err-rows c =
    let p = err_from_is_err_and c.from_residual-in_err-rows.result
    c.from_residual-in_err-rows.ensures.1 in
    let same = same_faults c.args.bundle.now c.period_of-period.result c.deref.result.now c.input.result.now
    c.input-2.result.now c.period_of-period.ensures.value c.input.ensures
    (c.deref.ensures.value ∙ c.in_ok-events.ensures.read.1) c.input-2.ensures in
    rw (p.1, p.2) (subst (λ all. Refuses all c.in_err-rows.field-0.0) same c.in_err-rows.ensures.read)

pub returns : goal.returns
returns c =
    let same = same_faults c.args.bundle.now c.period_of-period.result c.deref.result.now c.input.result.now
    c.input-2.result.now c.period_of-period.ensures.value c.input.ensures
    (c.deref.ensures.value ∙ c.in_ok-events.ensures.read.1) c.input-2.ensures in
    let read = c.in_ok-rows.ensures.read in (
      sym same ∙ read.0,
      c.in_ok-times_of.ensures ∙ ap (map (λ row. row.time)) (c.deref-2.ensures.value ∙ read.1)
          ∙ ap times_in c.input-2.ensures,
    )
