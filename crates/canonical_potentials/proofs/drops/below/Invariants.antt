-- The differences of the numbers so far.
use Rattle.plan_num.proofs.Common.{◌≡◌, ◌-◌, map, take}
use Rattle.canonical_potentials.proofs.drops.below.Given as goal

abbrev pub invariant-loop-number : goal.invariant-loop-number
invariant-loop-number l = l.made.items ≡ map (λ number. l.root - number) (take l.number-index l.numbers)
