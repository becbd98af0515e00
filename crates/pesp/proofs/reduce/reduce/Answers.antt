use Rattle.plan_num.proofs.Common.{arith, ◌∙◌, subst, sym, MatchBool-at_false, MatchBool-at_true}
use Rattle.pesp.specs.Marks.{AreMarks}
use Rattle.pesp.specs.Revising.{Dies, Sweeps}
use Rattle.pesp.proofs.GreatestSets.{stands_dead, stands_greatest, stands_loses_none}
use Rattle.pesp.proofs.ReducedSets.{bound_stands, dead_stands}
use Rattle.pesp.proofs.Sweeping.{all_bound, both_propagate, reducing_begun, reducing_turn}
use Rattle.pesp.proofs.reduce.reduce.Goals as goal

pub loop-sets-init : goal.loop-sets-init
loop-sets-init c =
    reducing_begun c.args.pesp.now c.args.sets.now c.args.changed.now c.requires.ready

pub returns-then-branch-clause-reduces : goal.returns-then-branch-clause-reduces
returns-then-branch-clause-reduces c =
    let dead = MatchBool-at_true (Dies c.args.pesp.now c.loop-sets.sets c.sweep.new.sets)
    (Sweeps c.args.pesp.now c.loop-sets.sets c.sweep.new.sets c.sweep.new.changed)
    c.if-branch.true c.in_ok-sweep.ensures.sweeps in
    dead_stands c.args.pesp.now c.event_count.ensures.problem c.args.sets.now c.sweep.new.sets
    c.requires.period c.requires.events
    (both_propagate c.args.pesp.now c.args.sets.now c.loop-sets.sets c.sweep.new.sets
    c.loop-sets.invariant.propagates dead.propagates) dead.empty

pub loop-sets-preserved : goal.loop-sets-preserved
loop-sets-preserved c =
    reducing_turn c.args.pesp.now c.args.sets.now c.loop-sets.sets c.sweep.new.sets
    c.loop-sets.changed c.sweep.new.changed c.loop-sets.invariant
    (MatchBool-at_false (Dies c.args.pesp.now c.loop-sets.sets c.sweep.new.sets)
    (Sweeps c.args.pesp.now c.loop-sets.sets c.sweep.new.sets c.sweep.new.changed)
    c.if-branch.false c.in_ok-sweep.ensures.sweeps)

pub returns-clause-reduces : goal.returns-clause-reduces
returns-clause-reduces c =
    bound_stands c.args.pesp.now c.event_count.ensures.problem c.args.sets.now c.loop-sets.sets
    c.requires.period c.requires.events c.loop-sets.invariant.propagates
    (subst AreMarks c.sets.ensures c.period.ensures.sound)
    (all_bound c.args.pesp.now c.args.sets.now c.loop-sets.sets c.loop-sets.changed
    c.event_count.ensures.problem c.loop-sets.invariant (sym c.has_some.ensures ∙ c.loop-sets-test.false))

pub returns-then-branch-clause-empty : goal.returns-then-branch-clause-empty
returns-then-branch-clause-empty c =
    sym (MatchBool-at_true (Dies c.args.pesp.now c.loop-sets.sets c.sweep.new.sets)
    (Sweeps c.args.pesp.now c.loop-sets.sets c.sweep.new.sets c.sweep.new.changed)
    c.if-branch.true c.in_ok-sweep.ensures.sweeps).empty

pub returns-clause-empty : goal.returns-clause-empty
returns-clause-empty c = sym (c.loop-sets.invariant.full c.requires.ready.full)

pub returns-then-branch-clause-each : goal.returns-then-branch-clause-each
returns-then-branch-clause-each c =
    c.in_ok-sweep.ensures.each ∙ c.loop-sets.invariant.each ∙ sym c.requires.ready.each

pub returns-clause-each : goal.returns-clause-each
returns-clause-each c = c.loop-sets.invariant.each ∙ sym c.requires.ready.each

-- the clauses on the greatest sets follow from how the sets stand
pub returns-then-branch-clause-dead : goal.returns-then-branch-clause-dead
returns-then-branch-clause-dead c _ = grind (
  arith,
  stands_dead,
  returns-then-branch-clause-reduces,
  returns-then-branch-clause-empty,
)

pub returns-then-branch-clause-loses_none : goal.returns-then-branch-clause-loses_none
returns-then-branch-clause-loses_none c = grind (
  arith,
  stands_loses_none,
  returns-then-branch-clause-reduces,
)

pub returns-clause-greatest : goal.returns-clause-greatest
returns-clause-greatest c _ =
    stands_greatest c.args.pesp.now c.args.sets.now c.loop-sets.sets (returns-clause-reduces c).stands
    (sym (returns-clause-empty c))

pub returns-clause-loses_none : goal.returns-clause-loses_none
returns-clause-loses_none c = grind (arith, stands_loses_none, returns-clause-reduces)
