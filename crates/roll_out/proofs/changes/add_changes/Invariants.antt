-- What holds before each turn.
use Rattle.plan_num.proofs.Common.{◌≡◌, ◌++◌, take, flat_map}
use Rattle.roll_out.specs.Plans.{changes_if}
use Rattle.roll_out.proofs.changes.add_changes.Given as goal

abbrev pub invariant-loop-activity : goal.invariant-loop-activity
invariant-loop-activity l =
    l.activities.items ≡ l.fn.activities.items ++ flat_map (changes_if l.network l.copies)
    (take l.activity-index l.network.activities)
