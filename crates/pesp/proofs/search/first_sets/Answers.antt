use Rattle.plan_num.proofs.Common.{◌≡◌, arith, subst, sym, true}
use Rattle.pesp.specs.Marks.{Tracked, is_left}
use Rattle.pesp.proofs.FirstMarks.{first_of_none, first_of_some}
use Rattle.pesp.proofs.search.first_sets.Goals as goal

pub returns-then-event_count-eq0 : goal.returns-then-event_count-eq0
returns-then-event_count-eq0 c =
    first_of_none c.args.pesp.now c.in_ok-marks.marks c.new-sets.result c.new-sets.ensures
    (omega (arith, c.in_ok-marks.ensures.period, c.requires))
    (omega (arith, c.in_ok-marks.ensures.events, c.event_count.ensures.count))
    (λ event time low few. c.in_ok-marks.ensures.all event time
    (omega (arith, low, c.in_ok-marks.ensures.events))
    (omega (arith, few, c.in_ok-marks.ensures.period)))
    (omega (arith, c.event_count-2.ensures.count, c.if-event_count-eq0.true))

pub keep_time-requires-clause-left : goal.keep_time-requires-clause-left
keep_time-requires-clause-left c =
    subst (λ (now : Tracked). is_left now.sets 0 0 ≡ true) (sym c.new-sets.ensures)
    (c.in_ok-marks.ensures.all 0 0
    (omega (arith, c.event_count.ensures.count, c.event_count-2.ensures.count, c.if-event_count-eq0.false))
    (omega (arith, c.event_count.ensures.problem.some, c.requires)))

pub returns : goal.returns
returns c =
    first_of_some c.args.pesp.now c.in_ok-marks.marks c.new-sets.result c.new-sets.ensures
    (omega (arith, c.in_ok-marks.ensures.period, c.requires))
    (omega (arith, c.in_ok-marks.ensures.events, c.event_count.ensures.count))
    (λ event time low few. c.in_ok-marks.ensures.all event time
    (omega (arith, low, c.in_ok-marks.ensures.events))
    (omega (arith, few, c.in_ok-marks.ensures.period)))
    c.keep_time.new.sets
    (omega (arith, c.event_count-2.ensures.count, c.if-event_count-eq0.false))
    c.in_ok-keep_time.ensures
