-- The definitions on small line problems.
use Rattle.std.proofs.Common.{◌≡◌, ℕ, length, List, [], ◌∷◌, refl, pos, true, false, Some, None}
use Rattle.line_cost_model.specs.declared.edge.BoundedEdge.{BoundedEdge}
use Rattle.line_cost_model.specs.declared.range.LineRange.{LineRange}
use Rattle.line_cost_model.specs.declared.side.Side.TheVariants as side
use Rattle.line_cost_model.specs.Problems.{CostedLine, ProblemParts}
use Rattle.line_cost_model.specs.Concepts.{cost_of, is_feasible}
use Rattle.line_cost_model.specs.Regions.{concept_count, concepts_in, root_of, empty_edge, part_up_to}
use Rattle.line_cost_model.specs.DualBounds.{bound_by, multipliers_of, dual_bound, are_within}

abbrev edge : ℕ → ℕ → ℕ → BoundedEdge
edge id least most = record { id = pos id; least = least; most = most }

abbrev line : ℕ → ℕ → List ℕ → CostedLine
line id cost edges = record { id = pos id; cost = cost; edges = edges }

abbrev range : ℕ → ℕ → LineRange
range lo hi = record { lo = lo; hi = hi }

abbrev lines : List CostedLine
lines = line 1 15000000 (0 ∷ 1 ∷ []) ∷ line 2 12000000 (0 ∷ []) ∷ []

-- two edges in a row, a line over both and a line over the first
abbrev two : ProblemParts
two = record { edges = edge 1 2 3 ∷ edge 2 1 3 ∷ []; lines = lines }

regions_of_two_lines :
    (root_of two ≡ range 0 3 ∷ range 0 3 ∷ [])
    × (concept_count (root_of two) ≡ 16)
    × (length (concepts_in (root_of two)) ≡ 16)
    × (is_feasible two (1 ∷ 1 ∷ []) ≡ true)
    -- too few drives over the first edge, and no frequency for the second line
    × (is_feasible two (1 ∷ 0 ∷ []) ≡ false)
    -- too short
    × (is_feasible two (2 ∷ []) ≡ false)
    × (cost_of two (1 ∷ 1 ∷ []) ≡ 27000000)
    × (cost_of two (2 ∷ 0 ∷ []) ≡ 30000000)
    -- no concept without the first line drives the second edge
    × (empty_edge two (part_up_to (root_of two) 0 0) ≡ Some (1, side.Under))
    -- not empty
    × (empty_edge two (root_of two) ≡ None)
unfolding concept_count concepts_in is_feasible empty_edge
regions_of_two_lines = (refl, refl, refl, refl, refl, refl, refl, refl, refl, refl)

-- a minimal frequency of the second edge that its maximal frequency over the first does not allow
abbrev dense : ProblemParts
dense = record { edges = edge 1 2 3 ∷ edge 2 4 4 ∷ []; lines = lines }

empty_ranges :
    (empty_edge dense (root_of dense) ≡ Some (1, side.Under))
    -- where an edge is missed on both sides, too many drives are told
    × (empty_edge (record { edges = edge 1 3 0 ∷ []; lines = line 1 1 (0 ∷ []) ∷ [] })
    (range 1 1 ∷ []) ≡ Some (0, side.Over))
unfolding empty_edge
empty_ranges = (refl, refl)

-- ---- dual bounds

-- the second edge may be left out
abbrev loose : ProblemParts
loose = record { edges = edge 1 2 3 ∷ edge 2 0 3 ∷ []; lines = lines }

bounds_by_multipliers :
    -- one drive is missing on the first edge, for which the second line is open
    (multipliers_of loose (range 1 1 ∷ range 0 3 ∷ []) ≡ record { edge = 0; amount = 12000000 } ∷ [])
    × (dual_bound loose (range 1 1 ∷ range 0 3 ∷ []) ≡ 27000000)
    × (are_within loose (range 1 1 ∷ range 0 3 ∷ []) (record { edge = 0; amount = 12000001 } ∷ []) ≡ false)
    -- a line over both edges pays for both, and what the first takes the second has no more
    × (multipliers_of
    (record {
      edges = edge 1 2 9 ∷ edge 2 3 9 ∷ [];
      lines = line 1 10 (0 ∷ 1 ∷ []) ∷ line 2 7
          (0 ∷ []) ∷ [];
    }) (range 0 9 ∷ range 0 9 ∷ [])
    ≡ record { edge = 0; amount = 7 } ∷ record { edge = 1; amount = 3 } ∷ [])
unfolding multipliers_of bound_by
bounds_by_multipliers = (refl, refl, refl, refl)
