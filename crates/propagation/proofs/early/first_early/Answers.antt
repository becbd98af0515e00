use Rattle.plan_num.proofs.Common.{◌∙◌, length, nat_lt, ap, length-map-range_with_len}
use Rattle.propagation.specs.declared.step.Activity.{Activity}
use Rattle.propagation.specs.EarlyEvents.{is_before}
use Rattle.propagation.specs.LeastTimes.{time_at}
use Rattle.propagation.proofs.FirstTold.{early_first}
use Rattle.propagation.proofs.MarksTell.{marked_length}
use Rattle.propagation.proofs.early.first_early.Goals as goal

pub mark_activities-requires-clause-each : goal.mark_activities-requires-clause-each
mark_activities-requires-clause-each c =
    ap length c.in_ok-marks.ensures
    ∙ length-map-range_with_len (λ event. nat_lt (time_at c.args.times.now event) (time_at c.args.earliest.now event)) 0
    (length c.args.times.now)

pub mark_turns-requires-clause-each : goal.mark_turns-requires-clause-each
mark_turns-requires-clause-each c =
    ap length c.mark_activities.ensures
    ∙ marked_length (λ (activity : Activity). activity.step.to)
    (λ activity. is_before c.args.times.now activity.step) c.args.activities.now c.in_ok-marks.marks.items
    ∙ ap length c.in_ok-marks.ensures
    ∙ length-map-range_with_len (λ event. nat_lt (time_at c.args.times.now event) (time_at c.args.earliest.now event)) 0
    (length c.args.times.now)

pub returns : goal.returns
returns c =
    early_first c.args.earliest.now c.args.activities.now c.args.turns.now c.args.times.now c.requires.activities
    c.requires.turns
    c.in_ok-marks.marks.items c.mark_activities.new.marks.items c.mark_turns.new.marks.items c.deref.result.now
    c.first_marked.result
    c.in_ok-marks.ensures c.mark_activities.ensures c.mark_turns.ensures c.deref.ensures.value c.first_marked.ensures
