-- What a tree of waiting decisions certifies: that no waiting decision costs less than a cost.
use Rattle.std.specs.Prelude.{ℕ, ℤ, ◌≡◌, ◌≤ℤ◌, int_lt, ◌&&◌, Bool, true, false, List, [], ◌∷◌, ◌++◌}
use Rattle.std.specs.List.{list_any}
use Rattle.propagation.specs.Problems.{DelayProblem}
use Rattle.waiting_decisions.specs.declared.decision.Decision.{Decision}
use Rattle.waiting_decisions.specs.declared.decision.Decision.TheVariants as decision
use Rattle.waiting_decisions.specs.declared.node.WaitNode.{WaitNode}
use Rattle.waiting_decisions.specs.declared.node.WaitNode.TheVariants as node
use Rattle.waiting_decisions.specs.Regions.{bound_of, decided, is_free_at, open_region}

-- a leaf, or the split by a change with the trees over the part that keeps it and the part that
-- drops it
pub data ChangeTree : Type 0 where
  leaf : ChangeTree
  fork : ℕ → ChangeTree → ChangeTree → ChangeTree

-- the nodes of a tree in preorder
unfoldable pub preorder : ChangeTree → List WaitNode
preorder leaf = node.Leaf ∷ []
preorder (fork change keeping dropping) =
    node.Split change ∷ preorder keeping ++ preorder dropping

-- a tree shows a cost over a region: each split decides a change that is free there, and no leaf
-- has a bound below the cost
unfoldable pub TreeCertifies : DelayProblem → ℕ → ℤ → List Decision → ChangeTree → Type 0
TreeCertifies problem penalty cost region leaf = cost ≤ℤ bound_of problem penalty region
TreeCertifies problem penalty cost region (fork change keeping dropping) =
    (is_free_at region change ≡ true)
    × TreeCertifies problem penalty cost (decided region change decision.Kept) keeping
    × TreeCertifies problem penalty cost (decided region change decision.Dropped) dropping

-- nodes certify a cost: they are the preorder of a tree that shows it over the region in which no
-- change is decided
pub record Certifies (problem : DelayProblem) (penalty : ℕ) (cost : ℤ)
    (nodes : List WaitNode) : Type 0 where
  pub tree : ChangeTree
  pub whole : preorder tree ≡ nodes
  pub shows : TreeCertifies problem penalty cost (open_region problem) tree

-- ---- the same as tests, for nodes from any hand. Each node is said of the first of some regions
-- that wait; behind a split its two parts wait in the place of the region.

-- the two parts of a region by a change
abbrev pub parts_by : List Decision → ℕ → List (List Decision)
parts_by region change =
    decided region change decision.Kept ∷ decided region change decision.Dropped ∷ []

-- nodes are one whole tree for each region that waits, and each split decides a change that is free
unfoldable pub are_trees : List (List Decision) → List WaitNode → Bool
are_trees [] [] = true
are_trees [] (node ∷ nodes) = false
are_trees (region ∷ regions) [] = false
are_trees (region ∷ regions) (node.Leaf ∷ nodes) = are_trees regions nodes
are_trees (region ∷ regions) (node.Split change ∷ nodes) =
    is_free_at region change && are_trees (parts_by region change ++ regions) nodes

-- the regions at the leaves
unfoldable pub leaves_of : List (List Decision) → List WaitNode → List (List Decision)
leaves_of [] nodes = []
leaves_of (region ∷ regions) [] = []
leaves_of (region ∷ regions) (node.Leaf ∷ nodes) = region ∷ leaves_of regions nodes
leaves_of (region ∷ regions) (node.Split change ∷ nodes) =
    leaves_of (parts_by region change ++ regions) nodes

-- nodes are one whole tree over the region in which no change is decided
abbrev pub are_tree : DelayProblem → List WaitNode → Bool
are_tree problem nodes = are_trees (open_region problem ∷ []) nodes

-- a leaf of some has a bound below a cost
abbrev pub any_low : DelayProblem → ℕ → ℤ → List (List Decision) → Bool
any_low problem penalty cost leaves =
    list_any (λ region. int_lt (bound_of problem penalty region) cost) leaves

abbrev pub has_low_leaf : DelayProblem → ℕ → ℤ → List WaitNode → Bool
has_low_leaf problem penalty cost nodes =
    any_low problem penalty cost (leaves_of (open_region problem ∷ []) nodes)
