use Rattle.plan_num.proofs.Common.{◌∙◌, ap, sym, option_map}
use Rattle.tables.proofs.Common.{records_by}
use Rattle.delay_management.specs.declared.fault.ReasonFault.TheVariants as fault
use Rattle.delay_management.specs.Judged.{reason_row}
use Rattle.delay_management.proofs.JudgedFaults.{found_wrong}
use Rattle.delay_management.proofs.judge.reason_rows_fault.Goals as goal

pub returns-in-Some : goal.returns-in-Some
returns-in-Some c kept are =
    sym (ap (option_map (λ event. fault.Reason event)) c.in-Some.is)
    ∙ found_wrong c.args.problem.now kept c.args.times.now c.earliest-earliest.result.now c.args.activities.now
    c.turns-turns.result.now
    c.earliest-earliest.ensures.value are c.turns-turns.ensures.value c.requires.each
    (records_by reason_row c.args.table.now) c.deref.result.now
    c.in_ok-event.field-0 (c.deref.ensures.value ∙ c.in_ok-reasons.ensures)
    (sym c.are_all_reasons.ensures ∙ c.if-not-are_all_reasons.false) c.in_ok-event.ensures

pub returns : goal.returns
returns c kept are =
    sym (ap (option_map (λ event. fault.Reason event)) c.in-None.is)
    ∙ found_wrong c.args.problem.now kept c.args.times.now c.earliest-earliest.result.now c.args.activities.now
    c.turns-turns.result.now
    c.earliest-earliest.ensures.value are c.turns-turns.ensures.value c.requires.each
    (records_by reason_row c.args.table.now) c.deref.result.now
    c.in_ok-event.field-0 (c.deref.ensures.value ∙ c.in_ok-reasons.ensures)
    (sym c.are_all_reasons.ensures ∙ c.if-not-are_all_reasons.false) c.in_ok-event.ensures
