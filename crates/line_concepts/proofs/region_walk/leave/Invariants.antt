use Rattle.plan_num.proofs.Common.{◌≡◌, length, reverse, All}
use Rattle.line_concepts.specs.Walks.{IsOpenSplit, waiting_of}
use Rattle.line_concepts.proofs.region_walk.leave.Given as goal

-- the same regions wait as before
abbrev pub invariant-loop-split : goal.invariant-loop-split
invariant-loop-split l = record {
  waiting : waiting_of (reverse l.splits.items) l.region.ranges
      ≡ waiting_of (reverse l.fn.splits.items) l.fn.region.ranges;
  problem : l.region.problem ≡ l.fn.region.problem;
  size : length l.region.ranges ≡ length l.fn.region.ranges;
  still : All (IsOpenSplit (length l.region.ranges)) l.splits.items;
}

abbrev pub decreases-loop-split : goal.decreases-loop-split
decreases-loop-split l = length l.splits.items
