-- The digits so far are worth the value, up to the cap.
use Rattle.plan_num.proofs.Common.{◌≡◌, ◌+◌, min, take}
use Rattle.plan_num.specs.Number.{value_of, whole_limit}
use Rattle.plan_num.proofs.number.capped_value.Given as goal

abbrev pub invariant-loop-digit : goal.invariant-loop-digit
invariant-loop-digit l = l.value ≡ min (value_of (take l.digit-index l.digits)) (whole_limit + 1)
