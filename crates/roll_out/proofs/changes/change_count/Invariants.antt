-- What holds before each turn.
use Rattle.plan_num.proofs.Common.{◌≡◌, ◌*◌, ◌≤◌, length, take, flat_map}
use Rattle.roll_out.specs.Plans.{changes_if}
use Rattle.roll_out.proofs.changes.change_count.Given as goal

abbrev pub invariant-loop-activity : goal.invariant-loop-activity
invariant-loop-activity l = record {
  told : l.count ≡ length
      (flat_map (changes_if l.network l.copies) (take l.activity-index l.network.activities));
  few : l.count ≤ 2000 * l.activity-index;
}
