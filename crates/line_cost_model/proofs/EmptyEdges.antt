-- The first edge that shows that a region has no feasible concept.
use Rattle.plan_num.proofs.Common.{arith, ◌≡◌, ℕ, ◌+◌, List, filter_map, slice_get, Some, None}
use Rattle.plan_num.proofs.Common.{Option, option_map, unwrap_or, refl, ap, cons_option, none-some}
use Rattle.line_cost_model.specs.declared.edge.BoundedEdge.{BoundedEdge}
use Rattle.line_cost_model.specs.declared.range.LineRange.{LineRange}
use Rattle.line_cost_model.specs.declared.side.Side.{Side}
use Rattle.line_cost_model.specs.Problems.{CostedLine, ProblemParts}
use Rattle.line_cost_model.specs.Regions.{HasNoFeasible, IsEmptyAt, empty_edge, empty_side}
use Rattle.line_cost_model.proofs.Duality.{empty_is_none}
use Rattle.line_cost_model.proofs.Feasible.{left_from, left_more}

-- the sides of the edges that are left
abbrev sides_from : ProblemParts → List LineRange → ℕ → List (ℕ × Side)
sides_from problem region edge =
    filter_map (λ at. option_map (λ side. (at.0, side))
    (empty_side problem.lines region at.0 at.1)) (left_from problem.edges edge)

-- the first of them
abbrev pub first_from : ProblemParts → List LineRange → ℕ → Option (ℕ × Side)
first_from problem region edge = slice_get (sides_from problem region edge) 0

sides_more : (problem : ProblemParts) (region : List LineRange) (edge : ℕ) (found : Option Side)
    → option_map (empty_side problem.lines region edge) (slice_get problem.edges edge) ≡ Some found
    → sides_from problem region edge ≡ cons_option (option_map (λ side. (edge, side)) found)
    (sides_from problem region (edge + 1))
sides_more problem region edge found is =
    grind (arith, slice_get, option_map, none-some, filter_map, left_more, unwrap_or)

pub first_more : (problem : ProblemParts) (region : List LineRange) (edge : ℕ) (found : Option Side)
    → option_map (empty_side problem.lines region edge) (slice_get problem.edges edge) ≡ Some found
    → first_from problem region edge ≡ slice_get
    (cons_option (option_map (λ side. (edge, side)) found)
    (sides_from problem region (edge + 1))) 0
first_more problem region edge found is = ap (λ sides. slice_get sides 0) (sides_more problem region edge found is)

pub first_is : (problem : ProblemParts) (region : List LineRange)
    → empty_edge problem region ≡ first_from problem region 0
unfolding empty_edge
first_is problem region = refl

-- an edge on such a side is driven too often, or not often enough
empty_at : (lines : List CostedLine) (region : List LineRange) (edge : ℕ) (bounds : BoundedEdge) (found : Side)
    → empty_side lines region edge bounds ≡ Some found → IsEmptyAt lines region edge bounds found
empty_at lines region edge bounds found is = grind arith

pub none_feasible : (problem : ProblemParts) (region : List LineRange) (edge : ℕ) (found : Side)
    → option_map (empty_side problem.lines region edge) (slice_get problem.edges edge) ≡ Some (Some found)
    → HasNoFeasible problem region
none_feasible problem region edge found is =
    elim (slice_get problem.edges edge) as (λ at. slice_get problem.edges edge ≡ at
    → option_map (empty_side problem.lines region edge) at ≡ Some (Some found) → HasNoFeasible problem region) [
      | None ↦ λ _ none. absurd (none-some (Some found) none)
      | Some at ↦ λ there same. empty_is_none problem region edge at found there
          (empty_at problem.lines region edge at found (ap (λ o. unwrap_or o None) same))
    ] refl is
