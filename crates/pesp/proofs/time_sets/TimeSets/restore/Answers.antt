use Rattle.plan_num.proofs.Common.{◌∙◌, All, arith, subst, sym}
use Rattle.pesp.specs.Marks.{IsChange, Marks}
use Rattle.pesp.proofs.Changes.{last_holds, none_left, others_hold, popped_branched}
use Rattle.pesp.proofs.Changes.{popped_replaced}
use Rattle.pesp.proofs.time_sets.TimeSets.restore.Goals as goal

pub put_word-requires : goal.put_word-requires
put_word-requires c =
    let so = subst (IsChange c.loop-change.self-inside.sets.columns
    c.loop-change.self-inside.sets.rows) c.in-Replaced.is
    (last_holds (IsChange c.loop-change.self-inside.sets.columns
    c.loop-change.self-inside.sets.rows)
    c.loop-change.self-inside.changes.items c.pop.new.self.items c.in-Some.change
    c.in-Some.ensures.items c.loop-change.invariant.changes) in grind arith

pub loop-change-preserved : goal.loop-change-preserved
loop-change-preserved c = record {
  period = grind arith;
  events = grind arith;
  saved = grind (arith, popped_replaced);
  changes = subst (λ (now : Marks). All (IsChange now.columns now.rows) c.pop.new.self.items)
      (sym c.put_word.ensures.put)
      (others_hold (IsChange c.loop-change.self-inside.sets.columns
      c.loop-change.self-inside.sets.rows)
      c.loop-change.self-inside.changes.items c.pop.new.self.items c.in-Some.change
      c.in-Some.ensures.items c.loop-change.invariant.changes);
}

pub returns-in-Branched : goal.returns-in-Branched
returns-in-Branched c = (
  sym c.loop-change.invariant.saved
      ∙ popped_branched c.loop-change.self-inside.sets c.loop-change.self-inside.changes.items
      c.pop.new.self.items c.in-Some.change c.in-Branched.branch c.in-Some.ensures.items
      c.in-Branched.is,
  subst (IsChange c.loop-change.self-inside.sets.columns c.loop-change.self-inside.sets.rows)
      c.in-Branched.is
      (last_holds (IsChange c.loop-change.self-inside.sets.columns
      c.loop-change.self-inside.sets.rows)
      c.loop-change.self-inside.changes.items c.pop.new.self.items c.in-Some.change
      c.in-Some.ensures.items c.loop-change.invariant.changes),
  c.loop-change.invariant.period,
  c.loop-change.invariant.events,
)

pub returns : goal.returns
returns c =
    sym c.loop-change.invariant.saved
    ∙ none_left c.loop-change.self-inside.sets c.loop-change.self-inside.changes.items
    (omega (arith, c.in_default.ensures.cases.0))
