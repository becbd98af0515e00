-- The activities so far and the chosen changes that are left are all of them.
use Rattle.plan_num.proofs.Common.{◌≡◌, ◌++◌, drop, items_where_true}
use Rattle.propagation.proofs.waiting.counted_activities.Given as goal

abbrev pub invariant-loop-index : goal.invariant-loop-index
invariant-loop-index l =
    l.all.items ++ items_where_true (drop l.index l.kept) (drop l.index l.changes)
    ≡ l.rides ++ items_where_true l.kept l.changes
