-- Dual bounds: multipliers of edges, and what they prove of the costs in a region.
use Rattle.std.specs.Prelude.{ℕ, ◌+◌, ◌-◌, ◌*◌, ◌≤◌, ◌==◌, nat_lt, nat_le, min, if◌then◌else◌}
use Rattle.std.specs.Prelude.{Bool, List, [], ◌∷◌, ◌++◌, map, filter, fold, slice_get, option_map}
use Rattle.std.specs.Prelude.{sum_by, unwrap_or, zip}
use Rattle.std.specs.List.{list_all, enumerate_from, reduce}
use Rattle.line_cost_model.specs.declared.multipliers.Multiplier.{Multiplier}
use Rattle.line_cost_model.specs.declared.edge.BoundedEdge.{BoundedEdge}
use Rattle.line_cost_model.specs.declared.range.LineRange.{LineRange}
use Rattle.line_cost_model.specs.Problems.{CostedLine, ProblemParts}
use Rattle.line_cost_model.specs.Concepts.{IsFeasible, goes_over, frequency_on, cost_of}
use Rattle.line_cost_model.specs.Regions.{LiesIn, has_several, least_in}

-- how many drives over an edge the least frequencies of a region fall short of its minimal
-- frequency; none where they are enough
abbrev pub shortfall : List CostedLine → List LineRange → ℕ → BoundedEdge → ℕ
shortfall lines region edge bounds = bounds.least - frequency_on lines (least_in region) edge

-- the lines whose ranges have several values
abbrev pub open_lines : List CostedLine → List LineRange → List CostedLine
open_lines lines region = map (λ at. at.0) (filter (λ at. has_several at.1) (zip lines region))

-- what multipliers of edges take off a line: their sum over its edges
abbrev pub taken_off : List Multiplier → CostedLine → ℕ
taken_off multipliers line =
    sum_by (λ multiplier. if goes_over multiplier.edge line then multiplier.amount else 0) multipliers

-- what they leave of its cost
abbrev pub left_of : List Multiplier → CostedLine → ℕ
left_of multipliers line = line.cost - taken_off multipliers line

-- multipliers are within the costs of the lines that are open: they take off none of them more than
-- it costs
abbrev pub are_within : ProblemParts → List LineRange → List Multiplier → Bool
are_within problem region multipliers =
    list_all (λ line. nat_le (taken_off multipliers line) line.cost) (open_lines problem.lines region)

-- the shortfall of the edge of an index
abbrev pub shortfall_at : ProblemParts → List LineRange → ℕ → ℕ
shortfall_at problem region edge =
    unwrap_or (option_map (shortfall problem.lines region edge) (slice_get problem.edges edge)) 0

-- what multipliers prove: the cost of the least frequencies, and for each drive that is missing on
-- an edge its multiplier
unfoldable pub bound_by : ProblemParts → List LineRange → List Multiplier → ℕ
bound_by problem region multipliers =
    cost_of problem (least_in region)
    + sum_by (λ multiplier. multiplier.amount * shortfall_at problem region multiplier.edge) multipliers

-- the open lines over an edge
abbrev pub open_over : ProblemParts → List LineRange → ℕ → List CostedLine
open_over problem region edge = filter (goes_over edge) (open_lines problem.lines region)

-- the least that multipliers leave of the costs of these lines; 0 where there is none
abbrev pub least_left : ProblemParts → List LineRange → List Multiplier → ℕ → ℕ
least_left problem region before edge =
    unwrap_or (reduce min (map (left_of before) (open_over problem region edge))) 0

-- the multiplier of an edge behind those of the edges before it: where drives are missing, the
-- least that is left of the costs of the open lines over it
abbrev pub next_multiplier : ProblemParts → List LineRange → List Multiplier → ℕ × BoundedEdge → ℕ
next_multiplier problem region before at =
    if nat_lt 0 (shortfall problem.lines region at.0 at.1) then least_left problem region before at.0 else 0

-- a multiplier of an edge, where it is not 0
abbrev pub unless_zero : ℕ → ℕ → List Multiplier
unless_zero edge amount = if amount == 0 then [] else record { edge = edge; amount = amount } ∷ []

-- multipliers with that of one edge more
abbrev pub with_next : ProblemParts → List LineRange → List Multiplier → ℕ × BoundedEdge → List Multiplier
with_next problem region before at = before ++ unless_zero at.0 (next_multiplier problem region before at)

-- the multipliers of all edges, edge by edge
unfoldable pub multipliers_of : ProblemParts → List LineRange → List Multiplier
multipliers_of problem region = fold (with_next problem region) [] (enumerate_from 0 problem.edges)

-- the dual bound of a region
abbrev pub dual_bound : ProblemParts → List LineRange → ℕ
dual_bound problem region = bound_by problem region (multipliers_of problem region)

-- each feasible concept of a region costs so much at least
abbrev pub CostsAtLeastIn : ProblemParts → List LineRange → ℕ → Type 0
CostsAtLeastIn problem region cost =
    (concept : List ℕ) → IsFeasible problem concept → LiesIn region concept → cost ≤ cost_of problem concept
