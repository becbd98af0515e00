-- The edges of the lists so far have them.
use Rattle.plan_num.proofs.Common.{◌≡◌, ℕ, length}
use Rattle.line_cost_model.specs.Crossings.{AreLonger, AreTaken}
use Rattle.line_cost_model.proofs.problem.take_longer.Given as goal

abbrev pub invariant-loop-one : goal.invariant-loop-one
invariant-loop-one l = record {
  size : length l.all.items ≡ length l.fn.all.items;
  taken : (line : ℕ) → AreLonger l.fn.all.items line l.fn.longer.items
      → AreTaken l.fn.all.items line l.yielded l.all.items;
}
