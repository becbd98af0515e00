-- What is summed and what the digits behind are worth make the whole.
use Rattle.plan_num.proofs.Common.{◌≡◌, ◌+◌, drop, length}
use Rattle.plan_num.specs.Print.{places}
use Rattle.plan_num.specs.Number.{value_at}
use Rattle.plan_num.proofs.number.millionths.Given as goal

abbrev pub invariant-loop-place : goal.invariant-loop-place
invariant-loop-place l =
    l.sum + value_at (drop (length l.yielded) places) (drop (length l.yielded) l.fraction)
    ≡ value_at places l.fraction
