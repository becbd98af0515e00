-- What holds before each turn.
use Rattle.plan_num.proofs.Common.{◌≡◌, ◌++◌, flat_map, range_with_len}
use Rattle.roll_out.specs.Plans.{changes_at}
use Rattle.roll_out.proofs.changes.add_copies.Given as goal

abbrev pub invariant-loop-earlier : goal.invariant-loop-earlier
invariant-loop-earlier l =
    l.activities.items ≡ l.fn.activities.items ++ flat_map
    (changes_at l.network l.copies l.activity) (range_with_len 0 l.earlier)
