use Rattle.plan_num.proofs.Common.{◌∙◌, subst}
use Rattle.pesp.specs.Marks.{IsNextChild}
use Rattle.pesp.specs.Searches.{Branches}
use Rattle.pesp.proofs.EmptySets.{settled_within}
use Rattle.pesp.proofs.Entries.{entry_found, entry_last, entry_next}
use Rattle.pesp.proofs.search.take_entry.Goals as goal

pub returns-in-Some : goal.returns-in-Some
returns-in-Some c =
    entry_found c.args.pesp.now c.args.sets.now c.reduce.new.sets c.in_ok-has_empty.ensures.reduces
    c.branch-alloc.new.sets c.in-Some.times
    (subst (Branches c.reduce.new.sets c.branch-alloc.new.sets) c.in-Some.is c.in_ok-times.ensures)

pub returns-in-Some-2 : goal.returns-in-Some-2
returns-in-Some-2 c =
    entry_next c.args.pesp.now c.args.sets.now c.reduce.new.sets c.in_ok-has_empty.ensures.reduces
    c.branch-alloc.new.sets c.next_child.new.sets c.in-Some-2.event c.set_alone.new.self
    (subst (Branches c.reduce.new.sets c.branch-alloc.new.sets) c.in_default.is
    c.in_ok-times.ensures)
    (subst (IsNextChild c.branch-alloc.new.sets c.next_child.new.sets) c.in-Some-2.is
    c.in_ok-event.ensures)
    c.requires.ready.saved (c.set_alone.ensures.events ∙ c.in_ok-has_empty.ensures.each
    ∙ c.requires.ready.each)
    c.set_alone.ensures.alone

pub branch-alloc-requires : goal.branch-alloc-requires
branch-alloc-requires c = record {
  empty = c.in_ok-has_empty.ensures.empty;
  settled = settled_within c.reduce.new.sets.sets c.args.sets.now.sets c.args.from
      c.in_ok-has_empty.ensures.reduces.period c.in_ok-has_empty.ensures.reduces.within
      c.requires.settled;
}

pub returns-in-None : goal.returns-in-None
returns-in-None c =
    entry_last c.args.pesp.now c.args.sets.now c.reduce.new.sets c.in_ok-has_empty.ensures.reduces
    c.branch-alloc.new.sets c.next_child.new.sets
    (subst (Branches c.reduce.new.sets c.branch-alloc.new.sets) c.in_default.is
    c.in_ok-times.ensures)
    (subst (IsNextChild c.branch-alloc.new.sets c.next_child.new.sets) c.in-None.is
    c.in_ok-event.ensures)
