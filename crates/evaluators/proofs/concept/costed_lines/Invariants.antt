-- The lines so far have their costs.
use Rattle.std.proofs.Common.{◌≡◌, map, take}
use Rattle.evaluators.specs.CostedLines.{costed}
use Rattle.evaluators.proofs.concept.costed_lines.Given as goal

abbrev pub invariant-loop-line : goal.invariant-loop-line
invariant-loop-line l = l.all.items ≡ map (costed l.costs) (take l.line-index l.lines)
