-- The changes so far say of the sets what all said at first.
use Rattle.std.proofs.Common.{◌≡◌, All, reverse, vec_len}
use Rattle.pesp.specs.Marks.{IsChange, saved_by}
use Rattle.pesp.proofs.time_sets.TimeSets.restore.Given as goal

abbrev pub invariant-loop-change : goal.invariant-loop-change
invariant-loop-change l = record {
  period : l.self-inside.sets.columns ≡ l.fn.self.sets.columns;
  events : l.self-inside.sets.rows ≡ l.fn.self.sets.rows;
  saved : saved_by l.self-inside.sets (reverse l.self-inside.changes.items) ≡ l.fn.self.saved;
  changes : All (IsChange l.self-inside.sets.columns l.self-inside.sets.rows)
      l.self-inside.changes.items;
}

abbrev pub decreases-loop-change : goal.decreases-loop-change
decreases-loop-change l = vec_len l.self-inside.changes
