use Rattle.plan_num.proofs.Common.{◌≡◌, All, IfOk, ap, sym, ◌∙◌, subst}
use Rattle.event_tables.proofs.Common.{schedule_cells, schedule_header}
use Rattle.tables.proofs.Common.{file_text, schedule_columns}
use Rattle.vehicle_model.specs.Schedules.{plan_text}
use Rattle.vehicle_model.proofs.RowsFit.{Fits, plan_fits}
use Rattle.vehicle_model.proofs.VehicleRows.{written}
use Rattle.vehicle_model.proofs.schedule_writing.write_plan.Goals as goal

pub schedule_text-requires : goal.schedule_text-requires
schedule_text-requires c = subst (All Fits) (sym (c.deref.ensures.value ∙ c.in_ok-rows.ensures.rows))
    (plan_fits c.args.trips.now c.args.plan.now c.in_ok-rows.ensures.trips c.requires)

pub returns-clause-text : goal.returns-clause-text
unfolding plan_text
returns-clause-text c = subst (λ some. IfOk c.schedule_text.result (λ text. text ≡ some))
    (ap (file_text schedule_header schedule_columns schedule_cells)
    (c.deref.ensures.value ∙ c.in_ok-rows.ensures.rows))
    c.schedule_text.ensures.text

pub returns-clause-back : goal.returns-clause-back
returns-clause-back c = written c.args.trips.now c.args.plan.now c.in_ok-rows.ensures.trips c.requires
    c.deref.result.now (c.deref.ensures.value ∙ c.in_ok-rows.ensures.rows) c.schedule_text.result
    c.schedule_text.ensures.back
