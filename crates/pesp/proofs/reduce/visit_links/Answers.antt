use Rattle.plan_num.proofs.Common.{◌∙◌, arith, get_or, refl, subst, sym}
use Rattle.pesp.specs.Flags.{Flags}
use Rattle.pesp.proofs.Visiting.{IsVisited, visit_begun, visit_died, visit_ended, visit_turn}
use Rattle.pesp.proofs.reduce.visit_links.Goals as goal

pub loop-index-init : goal.loop-index-init
loop-index-init c = record {
  visited =
      subst (λ (flags : Flags). IsVisited c.args.pesp.now c.args.event c.args.indexes.now
      c.args.sets.now
      c.args.sets.now c.args.changed.now flags 0) (sym c.put.ensures)
      (visit_begun c.args.pesp.now c.args.event c.args.indexes.now c.args.sets.now
      c.args.changed.now (omega (arith, c.requires.event, c.requires.each))
      c.requires.links c.requires.revised);
  counted = grind arith;
}

pub returns-then-branch-clause-visits : goal.returns-then-branch-clause-visits
returns-then-branch-clause-visits c =
    visit_died c.args.pesp.now c.args.event c.args.indexes.now c.args.sets.now c.loop-index.sets
    c.revise.new.sets c.args.changed.now c.loop-index.changed c.revise.new.changed
    c.loop-index.index-index
    (get_or c.args.indexes.now c.loop-index.index-index 0) c.activity.result
    c.loop-index.invariant.visited refl c.activity.ensures.place
    (c.loop-index.invariant.visited.propagates.period ∙ c.requires.period)
    c.in_ok-revise.ensures.revises
    (c.in_ok-revise.ensures.empty c.if-branch.true)

pub loop-index-preserved : goal.loop-index-preserved
loop-index-preserved c = record {
  visited =
      visit_turn c.args.pesp.now c.args.event c.args.indexes.now c.args.sets.now c.loop-index.sets
      c.revise.new.sets c.args.changed.now c.loop-index.changed c.revise.new.changed
      c.loop-index.index-index
      (get_or c.args.indexes.now c.loop-index.index-index 0) c.activity.result
      c.loop-index.invariant.visited refl c.activity.ensures.place
      (c.loop-index.invariant.visited.propagates.period ∙ c.requires.period)
      c.in_ok-revise.ensures.revises
      (c.in_ok-revise.ensures.full c.if-branch.false);
  counted = c.in_ok-revise.ensures.counted;
}

pub returns-clause-visits : goal.returns-clause-visits
returns-clause-visits c =
    visit_ended c.args.pesp.now c.args.event c.args.indexes.now c.args.sets.now c.loop-index.sets
    c.args.changed.now c.loop-index.changed c.loop-index.index-index c.loop-index.invariant.visited
    (omega
    arith)

pub returns-then-branch-clause-each : goal.returns-then-branch-clause-each
returns-then-branch-clause-each c =
    c.in_ok-revise.ensures.revises.0.each ∙ c.loop-index.invariant.visited.each

pub returns-clause-each : goal.returns-clause-each
returns-clause-each c = c.loop-index.invariant.visited.each
