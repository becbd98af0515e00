-- Inner words: the lines over each edge. A reader of the contracts of this crate needs none of
-- them.
use Rattle.std.specs.Prelude.{◌≡◌, ℕ, pos, ◌<◌, nat_eq, if◌then◌else◌, List, [], ◌∷◌, ◌++◌}
use Rattle.std.specs.Prelude.{length, map, filter, slice_get, slice_index_or, Some, All}
use Rattle.std.specs.List.{enumerate_from, list_any}
use Rattle.line_cost_model.specs.declared.edge.BoundedEdge.{BoundedEdge}
use Rattle.line_cost_model.specs.declared.problem.Longer.{Longer}
use Rattle.line_cost_model.specs.Problems.{CostedLine}
use Rattle.line_cost_model.specs.Concepts.{goes_over}

-- an edge with its bounds, and the indexes of the lines over it
pub record CrossedEdge : Type 0 where
  pub bounds : BoundedEdge
  pub lines : List ℕ

-- the indexes of the lines over an edge, rising
unfoldable pub lines_over : List CostedLine → ℕ → List ℕ
lines_over lines edge =
    map (λ at. at.0) (filter (λ at. goes_over edge at.1) (enumerate_from 0 lines))

-- each edge has those of the lines over it
abbrev pub AreCrossed : List CostedLine → List CrossedEdge → Type 0
AreCrossed lines edges =
    (edge : ℕ) (at : CrossedEdge) → slice_get edges edge ≡ Some at → at.lines ≡ lines_over lines edge

-- an edge that is not there
abbrev pub no_edge : CrossedEdge
no_edge = record { bounds = record { id = pos 0; least = 0; most = 0 }; lines = [] }

-- the edge at an index
abbrev pub edge_at : List CrossedEdge → ℕ → CrossedEdge
edge_at edges edge = slice_index_or edges edge no_edge

-- the edge at an index with one line more over it
abbrev pub crossed_at : List CrossedEdge → ℕ → ℕ → CrossedEdge
crossed_at edges line edge =
    record (edge_at edges edge) { lines = (edge_at edges edge).lines ++ line ∷ [] }

-- lists of the lines over edges, each with one line more
abbrev pub AreLonger : List CrossedEdge → ℕ → List Longer → Type 0
AreLonger edges line longer =
    All (λ one. (one.edge < length edges)
    × (one.lines.items ≡ (edge_at edges one.edge).lines ++ line ∷ [])) longer

-- the edges that have such a list have it now, and the others are as before
abbrev pub AreTaken : List CrossedEdge → ℕ → List Longer → List CrossedEdge → Type 0
AreTaken edges line longer after =
    (edge : ℕ) → edge < length edges → edge_at after edge
    ≡ (if list_any (λ one. nat_eq edge one.edge) longer then crossed_at edges line edge
    else edge_at edges edge)
