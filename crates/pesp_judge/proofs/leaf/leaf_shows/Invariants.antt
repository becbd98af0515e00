-- What the rows so far take off is counted.
use Rattle.plan_num.proofs.Common.{◌≡◌, ℕ, pos, length, List, ◌+ℤ◌, ◌≤ℤ◌}
use Rattle.std.proofs.Common.{◌*ℤ◌}
use Rattle.pesp_judge.specs.Weighted.{weighted_slack}
use Rattle.pesp_judge.specs.Cycles.{slacks_of}
use Rattle.pesp_judge.specs.Leaves.{products}
use Rattle.pesp_judge.specs.Trees.{IsIn}
use Rattle.pesp_judge.proofs.leaf.leaf_shows.Given as goal

abbrev pub invariant-loop-row : goal.invariant-loop-row
invariant-loop-row l =
    record {
      size : length l.residual ≡ length l.region.weighted.now.activities;
      falls : (times : List ℕ) → IsIn l.region times
          → (products l.residual (slacks_of l.region.weighted.now times) +ℤ l.right)
          ≤ℤ (pos l.parts *ℤ weighted_slack l.region.weighted.now times);
    }
