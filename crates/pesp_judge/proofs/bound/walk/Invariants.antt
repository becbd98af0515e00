-- Each timetable that costs less than the claim lies in a region that is left.
use Rattle.plan_num.proofs.Common.{◌≡◌, length}
use Rattle.pesp_judge.specs.Trees.{AreLeft, AreSplits}
use Rattle.pesp_judge.proofs.bound.walk.Given as goal

abbrev pub invariant-rows : goal.invariant-rows
invariant-rows l =
    record {
      size : length l.residual ≡ length l.tree.weighted.now.activities;
      path : AreSplits (length l.tree.cycles.now) l.path.items;
      left : AreLeft l.tree.weighted.now l.tree.cycles.now l.path.items l.tree.claim;
    }

abbrev pub decreases-rows : goal.decreases-rows
decreases-rows l = length l.rest
