-- What holds before each turn.
use Rattle.plan_num.proofs.Common.{◌≡◌, take}
use Rattle.roll_out.specs.DayActivities.{with_numbers}
use Rattle.roll_out.proofs.ways.with_numbers.Given as goal

abbrev pub invariant-loop-place : goal.invariant-loop-place
invariant-loop-place l = l.numbered.items ≡ with_numbers (take l.place l.activities)
