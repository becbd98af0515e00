-- The rows so far are cycles.
use Rattle.plan_num.proofs.Common.{◌≤◌, ◌-◌, length}
use Rattle.pesp_judge.specs.Trees.{AreCycles}
use Rattle.pesp_judge.proofs.bound.take_cycles.Given as goal

abbrev pub invariant-cycles : goal.invariant-cycles
invariant-cycles l =
    record {
      within : l.at ≤ length l.rows;
      are : AreCycles l.weighted l.cycles.items;
    }

abbrev pub decreases-cycles : goal.decreases-cycles
decreases-cycles l = length l.rows - l.at
