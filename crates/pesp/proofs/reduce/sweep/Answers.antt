use Rattle.plan_num.proofs.Common.{◌∙◌, sym, MatchBool-at_false, MatchBool-at_true}
use Rattle.pesp.specs.Revising.{Dies, Visits}
use Rattle.pesp.proofs.Sweeping.{sweep_begun, sweep_died, sweep_ended, sweep_turn}
use Rattle.pesp.proofs.reduce.sweep.Goals as goal

pub loop-event-init : goal.loop-event-init
loop-event-init c =
    sweep_begun c.args.pesp.now c.args.sets.now c.args.changed.now c.events-end.result
    c.events-end.ensures.value c.requires.each c.requires.revised

pub visit-requires-clause-flag : goal.visit-requires-clause-flag
visit-requires-clause-flag c = c.in-Some.ensures.1

pub returns-then-branch-clause-sweeps : goal.returns-then-branch-clause-sweeps
returns-then-branch-clause-sweeps c =
    sweep_died c.args.pesp.now c.args.sets.now c.loop-event.sets c.visit.new.sets
    c.loop-event.changed
    c.loop-event.end c.loop-event.invariant (MatchBool-at_true
    (Dies c.args.pesp.now c.loop-event.sets c.visit.new.sets)
    (Visits c.args.pesp.now c.in-Some.event c.loop-event.sets c.visit.new.sets c.loop-event.changed
    c.visit.new.changed) c.if-branch.true c.in_ok-visit.ensures.visits)

pub loop-event-preserved : goal.loop-event-preserved
loop-event-preserved c =
    sweep_turn c.args.pesp.now c.args.sets.now c.loop-event.sets c.visit.new.sets
    c.loop-event.changed
    c.visit.new.changed c.loop-event.end c.in-Some.event c.loop-event.invariant
    c.in-Some.ensures (MatchBool-at_false (Dies c.args.pesp.now c.loop-event.sets c.visit.new.sets)
    (Visits c.args.pesp.now c.in-Some.event c.loop-event.sets c.visit.new.sets c.loop-event.changed
    c.visit.new.changed) c.if-branch.false c.in_ok-visit.ensures.visits)

pub returns-clause-sweeps : goal.returns-clause-sweeps
returns-clause-sweeps c =
    sweep_ended c.args.pesp.now c.args.sets.now c.loop-event.sets c.loop-event.changed
    c.loop-event.end c.loop-event.invariant c.in_default.ensures

pub returns-then-branch-clause-each : goal.returns-then-branch-clause-each
returns-then-branch-clause-each c =
    c.in_ok-visit.ensures.each ∙ c.loop-event.invariant.each ∙ sym c.requires.each

pub returns-clause-each : goal.returns-clause-each
returns-clause-each c = c.loop-event.invariant.each ∙ sym c.requires.each
