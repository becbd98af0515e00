-- What a tree certifies: that no feasible concept costs less than a cost.
use Rattle.std.specs.Prelude.{◌≡◌, ℕ, ℤ, pos, ◌+◌, ◌≤◌, ◌<◌, ◌≤ℤ◌, List, slice_get, Some, All}
use Rattle.line_cost_model.specs.declared.multipliers.Multiplier.{Multiplier}
use Rattle.line_cost_model.specs.declared.edge.BoundedEdge.{BoundedEdge}
use Rattle.line_cost_model.specs.declared.range.LineRange.{LineRange}
use Rattle.line_cost_model.specs.declared.side.Side.{Side}
use Rattle.line_cost_model.specs.Problems.{ProblemParts}
use Rattle.line_cost_model.specs.Concepts.{IsFeasible, cost_of}
use Rattle.line_cost_model.specs.DualBounds.{open_lines, taken_off, bound_by}
use Rattle.line_cost_model.specs.Regions.{IsEmptyAt, root_of, range_of, least_in, part_up_to}
use Rattle.line_cost_model.specs.Regions.{part_from}
use Rattle.line_concepts.specs.declared.node.Node.{Node}
use Rattle.line_concepts.specs.declared.node.Node.TheVariants as node
use Rattle.line_concepts.specs.Trees.{NodeTree, leaf, fork, preorder}

-- an edge is there and shows that no concept of a region keeps its bounds
abbrev pub ShowsEmpty : ProblemParts → List LineRange → ℕ → Side → Type 0
ShowsEmpty problem region edge side =
    (bounds : BoundedEdge) × (slice_get problem.edges edge ≡ Some bounds)
    × IsEmptyAt problem.lines region edge bounds side

-- multipliers show that the concepts of a region cost so much: on each open line they add up to at most
-- its cost, and their bound is not below
pub record ShowsBound (problem : ProblemParts) (cost : ℤ) (region : List LineRange)
    (multipliers : List Multiplier) : Type 0 where
  pub within : All (λ line. taken_off multipliers line ≤ line.cost) (open_lines problem.lines region)
  pub enough : cost ≤ℤ pos (bound_by problem region multipliers)

-- a region is one concept, which costs so much
pub record ShowsPoint (problem : ProblemParts) (cost : ℤ) (region : List LineRange) : Type 0 where
  pub one : All (λ range. range.lo ≡ range.hi) region
  pub enough : cost ≤ℤ pos (cost_of problem (least_in region))

-- the split of a line's range lies inside it
abbrev pub SplitsInside : List LineRange → ℕ → ℕ → Type 0
SplitsInside region line at = ((range_of region line).lo ≤ at) × (at < (range_of region line).hi)

-- a leaf shows that each feasible concept of a region costs so much
abbrev pub LeafCertifies : ProblemParts → ℤ → List LineRange → Node → Type 0
LeafCertifies problem cost region (node.Split line at) = ⊥
LeafCertifies problem cost region (node.Empty edge side) = ShowsEmpty problem region edge side
LeafCertifies problem cost region (node.Bound multipliers) = ShowsBound problem cost region multipliers
LeafCertifies problem cost region node.Point = ShowsPoint problem cost region

-- a tree shows it: its leaves do, and its splits lie inside
unfoldable pub TreeCertifies : ProblemParts → ℤ → List LineRange → NodeTree → Type 0
TreeCertifies problem cost region (leaf node) = LeafCertifies problem cost region node
TreeCertifies problem cost region (fork line at lower upper) =
    SplitsInside region line at
    × TreeCertifies problem cost (part_up_to region line at) lower
    × TreeCertifies problem cost (part_from region line (at + 1)) upper

-- nodes certify a cost: they are the preorder of a tree that shows it over the root region
pub record Certifies (problem : ProblemParts) (cost : ℤ) (nodes : List Node) : Type 0 where
  pub tree : NodeTree
  pub whole : preorder tree ≡ nodes
  pub shows : TreeCertifies problem cost (root_of problem) tree

-- what that means: no feasible concept costs less
abbrev pub CostsAtLeast : ProblemParts → ℤ → Type 0
CostsAtLeast problem cost =
    (concept : List ℕ) → IsFeasible problem concept → cost ≤ℤ pos (cost_of problem concept)
