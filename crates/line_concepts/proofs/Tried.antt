-- The definitions on a small problem and its trees.
use Rattle.plan_num.proofs.Common.{◌≡◌, ℕ, List, [], ◌∷◌, refl, pos}
use Rattle.line_cost_model.specs.declared.edge.BoundedEdge.{BoundedEdge}
use Rattle.line_cost_model.proofs.Common.{CostedLine, ProblemParts}
use Rattle.line_cost_model.specs.declared.side.Side.TheVariants as side
use Rattle.line_cost_model.specs.DualBounds.{bound_by, multipliers_of}
use Rattle.line_cost_model.specs.Regions.{empty_edge}
use Rattle.line_concepts.specs.declared.fault.TreeFault.TheVariants as fault
use Rattle.line_concepts.specs.declared.node.Node.{Node}
use Rattle.line_concepts.specs.declared.node.Node.TheVariants as node
use Rattle.line_concepts.specs.Budgets.{nodes_in}
use Rattle.line_concepts.specs.Listings.{entries_within, listing}
use Rattle.line_concepts.specs.TreeFaults.{tree_faults}
use Rattle.line_concepts.specs.Trees.{first_tree, placed_over}

abbrev pub edge : ℕ → ℕ → ℕ → BoundedEdge
edge id least most = record { id = pos id; least = least; most = most }

abbrev pub line : ℕ → ℕ → List ℕ → CostedLine
line id cost edges = record { id = pos id; cost = cost; edges = edges }

abbrev pub lines : List CostedLine
lines = line 1 15000000 (0 ∷ 1 ∷ []) ∷ line 2 12000000 (0 ∷ []) ∷ []

-- two edges in a row, a line over both and a line over the first
abbrev pub two : ProblemParts
two = record { edges = edge 1 2 3 ∷ edge 2 1 3 ∷ []; lines = lines }

-- the tree that certifies that no concept costs less than 27
abbrev pub nodes : List Node
nodes =
    node.Split 0 1 ∷ node.Split 0 0 ∷ node.Empty 1 side.Under ∷ node.Split 1 1 ∷ node.Split 1 0
    ∷ node.Empty 0 side.Under ∷ node.Point ∷ node.Bound [] ∷ node.Bound [] ∷ []

searched_and_certified :
    -- it is that of the search
    (nodes_in (listing two) ≡ nodes)
    × (tree_faults two (pos 27000000) nodes ≡ [])
    -- one millionth more is not: the point costs less
    × (tree_faults two (pos 27000001) nodes ≡ fault.Point 6 ∷ [])
    -- nor are 30: the bounds are 39 and 30, the point costs 27
    × (tree_faults two (pos 30000000) nodes ≡ fault.Point 6 ∷ [])
    -- a leaf is missing; the last of two points is left over; no node at all
    × (tree_faults two (pos 27000000) (node.Split 0 1 ∷ node.Bound [] ∷ [])
    ≡ fault.Shape 2 ∷ [])
    -- left over
    × (tree_faults two (pos 0) (node.Bound [] ∷ node.Bound [] ∷ []) ≡ fault.Shape 0 ∷ [])
    × (tree_faults two (pos 0) [] ≡ fault.Shape 0 ∷ [])
    -- an edge that is not empty on the side that is named
    × (tree_faults two (pos 0) (node.Empty 0 side.Under ∷ []) ≡ fault.Empty 0 ∷ [])
unfolding listing entries_within bound_by multipliers_of empty_edge tree_faults first_tree placed_over
searched_and_certified = (refl, refl, refl, refl, refl, refl, refl, refl)
