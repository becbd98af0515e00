-- The steps so far are taken off.
use Rattle.plan_num.proofs.Common.{◌≡◌, ℤ, ◌-ℤ◌, List, length, take}
use Rattle.std.proofs.Common.{◌*ℤ◌}
use Rattle.pesp_judge.specs.Cycles.{along, count_in}
use Rattle.pesp_judge.specs.Leaves.{products}
use Rattle.pesp_judge.proofs.leaf.take_off.Given as goal

abbrev pub invariant-loop-step : goal.invariant-loop-step
invariant-loop-step l =
    record {
      size : length l.residual ≡ length l.initial.residual;
      falls : (slacks : List ℤ) → length slacks ≡ length l.initial.residual
          → products l.residual slacks ≡ products l.initial.residual slacks
          -ℤ l.amount *ℤ along (count_in l.inequality.weighing) slacks
          (take l.step-index l.step-items);
    }
