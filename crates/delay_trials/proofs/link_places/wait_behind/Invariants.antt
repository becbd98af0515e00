-- The links of the rank so far wait, and those behind are as they were.
use Rattle.plan_num.proofs.Common.{◌-◌, length}
use Rattle.delay_trials.proofs.Waits.{WaitTo}
use Rattle.delay_trials.proofs.link_places.wait_behind.Given as goal

abbrev pub invariant-loop-at : goal.invariant-loop-at
invariant-loop-at l = WaitTo l.links l.rank l.fn.waiting l.at l.waiting

abbrev pub decreases-loop-at : goal.decreases-loop-at
decreases-loop-at l = length l.links - l.at
