-- Trees of nodes: each is a leaf, or a split with a tree on either side.
use Rattle.std.specs.Prelude.{ℕ, zero, suc, ◌+◌, List, [], ◌∷◌, ◌++◌, Option, Some, None}
use Rattle.std.specs.Prelude.{option_map, option_and_then, Bool, true, false}
use Rattle.line_cost_model.specs.declared.range.LineRange.{LineRange}
use Rattle.line_cost_model.specs.Regions.{part_up_to, part_from}
use Rattle.line_concepts.specs.declared.node.Node.{Node}
use Rattle.line_concepts.specs.declared.node.Node.TheVariants as node

-- a leaf, or the split of a line's range at a frequency, with the trees over its lower and its upper part
pub data NodeTree : Type 0 where
  leaf : Node → NodeTree
  fork : ℕ → ℕ → NodeTree → NodeTree → NodeTree

-- the nodes of a tree in preorder
unfoldable pub preorder : NodeTree → List Node
preorder (leaf node) = node ∷ []
preorder (fork line at lower upper) = node.Split line at ∷ preorder lower ++ preorder upper

-- a tree that nodes begin with, and the nodes behind it, where there is one
abbrev pub ReadTree : Type 0
ReadTree = Option (NodeTree × List Node)

-- a split over a tree and the tree behind it, where there are both
abbrev pub forked : (List Node → ReadTree) → ℕ → ℕ → NodeTree × List Node → ReadTree
forked next line at lower = option_map (λ upper. (fork line at lower.0 upper.0, upper.1)) (next lower.1)

-- the tree that nodes begin with, and the nodes behind it. A tree has no more levels than nodes.
unfoldable pub first_tree : ℕ → List Node → ReadTree
first_tree zero nodes = None
first_tree (suc levels) [] = None
first_tree (suc levels) (node.Split line at ∷ nodes) =
    option_and_then (forked (first_tree levels) line at) (first_tree levels nodes)
first_tree (suc levels) (node ∷ nodes) = Some (leaf node, nodes)

-- a node of a tree over a region, with the region at which it stands
pub record PlacedNode : Type 0 where
  pub node : Node
  pub region : List LineRange

-- the nodes of a tree over a region in preorder, each with its region
unfoldable pub placed_over : List LineRange → NodeTree → List PlacedNode
placed_over region (leaf node) = record { node = node; region = region } ∷ []
placed_over region (fork line at lower upper) =
    record { node = node.Split line at; region = region }
    ∷ placed_over (part_up_to region line at) lower
    ++ placed_over (part_from region line (at + 1)) upper

-- a node is a split
abbrev pub is_split : Node → Bool
is_split (node.Split line at) = true
is_split _ = false
