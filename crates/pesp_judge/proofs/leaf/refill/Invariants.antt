-- The numbers so far are weights in parts.
use Rattle.plan_num.proofs.Common.{◌≡◌, pos, take, length}
use Rattle.pesp_judge.specs.Leaves.{scaled}
use Rattle.pesp_judge.proofs.leaf.refill.Given as goal

abbrev pub invariant-loop-index : goal.invariant-loop-index
invariant-loop-index l =
    record {
      size : length l.residual ≡ length l.weighted.activities;
      so_far : take l.index l.residual ≡ scaled (pos l.parts) (take l.index l.weighted.activities);
    }
