use Rattle.plan_num.proofs.Common.{◌≡◌, take}
use Rattle.line_cost_model.specs.Regions.{root_of}
use Rattle.line_cost_model.proofs.running.root_ranges.Given as goal

-- the ranges are those of the lines so far
abbrev pub invariant-loop-line : goal.invariant-loop-line
invariant-loop-line l = l.ranges.items ≡ take l.line (root_of l.problem)
