-- What goes over into itself after both numbers does so after those that are at hand.
use Rattle.plan_num.proofs.Common.{◌<◌, ◌≤◌, ℕ, Bool}
use Rattle.pesp.specs.Cycles.{Repeats}
use Rattle.pesp.proofs.cycles.common.Given as goal

abbrev pub invariant-divisions : goal.invariant-divisions
invariant-divisions l = record {
  few : (bound : ℕ) → l.first < bound → l.second < bound → (l.one < bound) × (l.other < bound);
  repeats : (period : ℕ) (left : ℕ → Bool) → 1 ≤ period → Repeats period left l.first
      → Repeats period left l.second
      → Repeats period left l.one × Repeats period left l.other;
}

abbrev pub decreases-divisions : goal.decreases-divisions
decreases-divisions l = l.other
