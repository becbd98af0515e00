-- The faults for which nodes do not certify a cost, in the order in which they are looked for.
use Rattle.std.specs.Prelude.{ℕ, ℤ, pos, ◌-◌, ◌&&◌, ◌||◌, ◌==◌, not, nat_lt, nat_le, int_le}
use Rattle.std.specs.Prelude.{if◌then◌else◌, Bool, false, List, [], ◌∷◌, ◌++◌, length, slice_get}
use Rattle.std.specs.Prelude.{Some, None, option_map, unwrap_or}
use Rattle.std.specs.List.{list_any, enumerate_from, flat_map}
use Rattle.line_cost_model.specs.declared.range.LineRange.{LineRange}
use Rattle.line_cost_model.specs.Problems.{ProblemParts}
use Rattle.line_cost_model.specs.Concepts.{cost_of}
use Rattle.line_cost_model.specs.DualBounds.{are_within, bound_by}
use Rattle.line_cost_model.specs.EmptySides.{is_empty_on}
use Rattle.line_cost_model.specs.Regions.{root_of, range_of, has_several, least_in}
use Rattle.line_concepts.specs.declared.fault.TreeFault.{TreeFault}
use Rattle.line_concepts.specs.declared.fault.TreeFault.TheVariants as fault
use Rattle.line_concepts.specs.declared.node.Node.{Node}
use Rattle.line_concepts.specs.declared.node.Node.TheVariants as node
use Rattle.line_concepts.specs.Trees.{ReadTree, PlacedNode, first_tree, placed_over}

-- the tree that nodes begin with, and the nodes behind it
abbrev pub tree_in : List Node → ReadTree
tree_in nodes = first_tree (length nodes) nodes

-- nodes are not one whole tree: some are missing at their end, or some are left over after a place, which
-- is that of the last node of the tree
abbrev pub shape_of : ℕ → ReadTree → List TreeFault
shape_of nodes None = fault.Shape nodes ∷ []
shape_of nodes (Some read) = if length read.1 == 0 then [] else fault.Shape (nodes - length read.1 - 1) ∷ []

-- each node with its region, where they are one
abbrev pub placed_in : ProblemParts → ReadTree → List PlacedNode
placed_in problem read = unwrap_or (option_map (λ tree. placed_over (root_of problem) tree.0) read) []

-- a split outside the range of its line
abbrev pub splits_outside : List LineRange → Node → Bool
splits_outside region (node.Split line at) =
    not (nat_le (range_of region line).lo at && nat_lt at (range_of region line).hi)
splits_outside region _ = false

-- a node names an edge as empty that is not
abbrev pub is_not_empty : ProblemParts → List LineRange → Node → Bool
is_not_empty problem region (node.Empty edge side) =
    not (unwrap_or (option_map (is_empty_on problem region edge side) (slice_get problem.edges edge)) false)
is_not_empty problem region _ = false

-- multipliers that take more off an open line than it costs
abbrev pub exceeds_costs : ProblemParts → List LineRange → Node → Bool
exceeds_costs problem region (node.Bound multipliers) = not (are_within problem region multipliers)
exceeds_costs problem region _ = false

-- a bound that is below a cost
abbrev pub is_below : ProblemParts → ℤ → List LineRange → Node → Bool
is_below problem cost region (node.Bound multipliers) =
    not (int_le cost (pos (bound_by problem region multipliers)))
is_below problem cost region _ = false

-- a point that is no one concept, or that costs less
abbrev pub is_no_point : ProblemParts → ℤ → List LineRange → Node → Bool
is_no_point problem cost region node.Point =
    list_any has_several region || not (int_le cost (pos (cost_of problem (least_in region))))
is_no_point problem cost region _ = false

-- the faults of one kind, node by node: its test of a region and the node there, and the fault at a place
abbrev pub faults_by : (List LineRange → Node → Bool) → (ℕ → TreeFault) → List PlacedNode → List TreeFault
faults_by test fault placed =
    flat_map (λ at. if test at.1.region at.1.node then fault at.0 ∷ [] else []) (enumerate_from 0 placed)

-- every fault of nodes with their regions, kind by kind
abbrev pub placed_faults : ProblemParts → ℤ → List PlacedNode → List TreeFault
placed_faults problem cost placed =
    faults_by splits_outside (λ place. fault.Split place) placed
    ++ faults_by (is_not_empty problem) (λ place. fault.Empty place) placed
    ++ faults_by (exceeds_costs problem) (λ place. fault.Multiplier place) placed
    ++ faults_by (is_below problem cost) (λ place. fault.Bound place) placed
    ++ faults_by (is_no_point problem cost) (λ place. fault.Point place) placed

-- every fault of nodes: that of their shape first
unfoldable pub tree_faults : ProblemParts → ℤ → List Node → List TreeFault
tree_faults problem cost nodes =
    let read = tree_in nodes in
    shape_of (length nodes) read ++ placed_faults problem cost (placed_in problem read)
