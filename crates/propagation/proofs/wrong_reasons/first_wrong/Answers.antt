use Rattle.plan_num.proofs.Common.{arith, nat_eq, length-map-range_with_len}
use Rattle.propagation.proofs.FirstTold.{wrong_first}
use Rattle.propagation.proofs.MarksTell.{marked_length}
use Rattle.propagation.proofs.wrong_reasons.first_wrong.Goals as goal

pub mark_activities-requires-clause-each : goal.mark_activities-requires-clause-each
mark_activities-requires-clause-each c =
    let reasons = c.args.reasons.now in grind (arith, length-map-range_with_len, nat_eq)

pub mark_turns-requires-clause-each : goal.mark_turns-requires-clause-each
mark_turns-requires-clause-each c =
    let reasons = c.args.reasons.now in grind (
      arith,
      marked_length,
      length-map-range_with_len,
      nat_eq,
    )

pub returns : goal.returns
returns c =
    wrong_first c.args.earliest.now c.args.activities.now c.args.turns.now c.args.times.now c.requires.activities
    c.requires.turns c.args.reasons.now
    c.in_ok-marks.marks.items c.mark_activities.new.marks.items c.mark_turns.new.marks.items c.deref.result.now
    c.first_unmarked.result
    c.in_ok-marks.ensures c.mark_activities.ensures c.mark_turns.ensures c.deref.ensures.value c.first_unmarked.ensures
