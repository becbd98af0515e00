-- The sum so far goes on as the first one does, and is no greater than so many events can make it.
use Rattle.plan_num.proofs.Common.{◌≡◌, ◌*◌, ◌+ℤ◌, ◌≤ℤ◌, neg_ℤ, pos, drop, filter, zip, fold}
use Rattle.delay_management.specs.DayLateness.{arrives, delay_at, lateness}
use Rattle.delay_management.proofs.day_lateness.delay_at.Given as goal
use Rattle.propagation.specs.declared.times.TheConstants.{LATEST}

abbrev pub invariant-loop-index : goal.invariant-loop-index
invariant-loop-index l = record {
  told : fold (λ sum timed. sum +ℤ lateness timed) l.sum
      (filter arrives (zip (drop l.index l.events) (drop l.index l.times))) ≡ delay_at l.events l.times;
  high : l.sum ≤ℤ pos (l.index * LATEST);
  low : neg_ℤ (pos (l.index * LATEST)) ≤ℤ l.sum;
}
