-- What was restored so far has no child that waits.
use Rattle.plan_num.proofs.Common.{◌≡◌, ◌++◌, List, length}
use Rattle.pesp.specs.Marks.{Saved, waiting}
use Rattle.pesp.proofs.children.next_child.Given as goal

abbrev pub invariant-loop-branch : goal.invariant-loop-branch
invariant-loop-branch l = record {
  period : l.sets.sets.columns ≡ l.fn.sets.sets.columns;
  events : l.sets.sets.rows ≡ l.fn.sets.sets.rows;
  passed : List Saved;
  all : l.fn.sets.saved ≡ passed ++ l.sets.saved;
  waiting : waiting l.fn.sets.saved ≡ waiting l.sets.saved;
}

abbrev pub decreases-loop-branch : goal.decreases-loop-branch
decreases-loop-branch l = length l.sets.saved
