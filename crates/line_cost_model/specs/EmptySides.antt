-- The test of an edge that is named as empty.
use Rattle.std.specs.Prelude.{ℕ, nat_lt, Bool, List}
use Rattle.line_cost_model.specs.declared.edge.BoundedEdge.{BoundedEdge}
use Rattle.line_cost_model.specs.declared.range.LineRange.{LineRange}
use Rattle.line_cost_model.specs.declared.side.Side.{Side}
use Rattle.line_cost_model.specs.declared.side.Side.TheVariants as side
use Rattle.line_cost_model.specs.Problems.{ProblemParts}
use Rattle.line_cost_model.specs.Concepts.{frequency_on}
use Rattle.line_cost_model.specs.Regions.{least_in, greatest_in}

-- an edge is driven too often by the least frequencies of a region, or not often enough by the
-- greatest
abbrev pub is_empty_on : ProblemParts → List LineRange → ℕ → Side → BoundedEdge → Bool
is_empty_on problem region edge side.Over bounds =
    nat_lt bounds.most (frequency_on problem.lines (least_in region) edge)
is_empty_on problem region edge side.Under bounds =
    nat_lt (frequency_on problem.lines (greatest_in region) edge) bounds.least
