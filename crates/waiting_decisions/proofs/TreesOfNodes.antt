-- Nodes that are a whole tree without a low leaf certify a cost, and conversely.
use Rattle.plan_num.proofs.Common.{◌≡◌, ℕ, ℤ, ◌≤ℤ◌, true, false, List, [], ◌∷◌, ◌++◌, refl, ap}
use Rattle.plan_num.proofs.Common.{subst, append_assoc, append-nil, arith, int_lt, and_parts}
use Rattle.plan_num.proofs.Common.{both_ways, or_parts, ints}
use Rattle.propagation.proofs.Common.{DelayProblem}
use Rattle.waiting_decisions.specs.declared.decision.Decision.{Decision}
use Rattle.waiting_decisions.specs.declared.decision.Decision.TheVariants as decision
use Rattle.waiting_decisions.specs.declared.node.WaitNode.{WaitNode}
use Rattle.waiting_decisions.specs.declared.node.WaitNode.TheVariants as node
use Rattle.waiting_decisions.specs.Certified.{Certifies, ChangeTree, TreeCertifies, any_low, are_tree, are_trees, fork}
use Rattle.waiting_decisions.specs.Certified.{has_low_leaf, leaf, leaves_of, parts_by, preorder}
use Rattle.waiting_decisions.specs.Regions.{bound_of, decided, is_free_at, open_region}

not_lt : (a b : ℤ) → int_lt a b ≡ false → b ≤ℤ a
not_lt a b h = grind (arith, ints)

module _ (problem : DelayProblem) (penalty : ℕ) (cost : ℤ) where
  -- trees for some regions, and the nodes of each behind those of the one before
  data Trees : List (List Decision) → List WaitNode → Type 0 where
    no_more : Trees [] []
    one_more : (region : List Decision) (regions : List (List Decision)) (tree : ChangeTree) (rest : List WaitNode)
        → TreeCertifies problem penalty cost region tree → Trees regions rest
        → Trees (region ∷ regions) (preorder tree ++ rest)

  joined : (region : List Decision) (regions : List (List Decision)) (change : ℕ) (nodes : List WaitNode)
      → is_free_at region change ≡ true
      → Trees (decided region change decision.Kept ∷ decided region change decision.Dropped ∷ regions) nodes
      → Trees (region ∷ regions) (node.Split change ∷ nodes)
  unfolding TreeCertifies preorder
  joined region regions change nodes free (one_more kept _ keeping _ one (one_more dropped _ dropping rest two more)) =
      subst (Trees (region ∷ regions)) (ap (λ nodes. node.Split change ∷ nodes)
      (append_assoc (preorder keeping) (preorder dropping) rest))
      (one_more region regions (fork change keeping dropping) rest (free, one, two) more)

  trees_from : (regions : List (List Decision)) (nodes : List WaitNode) → are_trees regions nodes ≡ true
      → any_low problem penalty cost (leaves_of regions nodes) ≡ false → Trees regions nodes
  unfolding are_trees leaves_of TreeCertifies preorder
  trees_from [] [] are low = no_more
  trees_from [] (node ∷ nodes) are low = absurd (both_ways false refl are)
  trees_from (region ∷ regions) [] are low = absurd (both_ways false refl are)
  trees_from (region ∷ regions) (node.Leaf ∷ nodes) are low =
      let parts = or_parts (int_lt (bound_of problem penalty region) cost)
      (any_low problem penalty cost (leaves_of regions nodes)) low in
      one_more region regions leaf nodes (not_lt (bound_of problem penalty region) cost parts.0)
      (trees_from regions nodes are parts.1)
  trees_from (region ∷ regions) (node.Split change ∷ nodes) are low =
      let parts = and_parts (is_free_at region change) (are_trees (parts_by region change ++ regions) nodes) are in
      joined region regions change nodes parts.0 (trees_from (parts_by region change ++ regions) nodes parts.1 low)

  first_tree : (nodes : List WaitNode) → Trees (open_region problem ∷ []) nodes → Certifies problem penalty cost nodes
  first_tree _ (one_more _ _ tree _ shows no_more) = grind (arith, append-nil)

  pub certifies_by : (nodes : List WaitNode) → are_tree problem nodes ≡ true
      → has_low_leaf problem penalty cost nodes ≡ false
      → Certifies problem penalty cost nodes
  certifies_by nodes are low = first_tree nodes (trees_from (open_region problem ∷ []) nodes are low)

  -- the nodes of a tree over the first region that waits leave the others
  tree_passes : (tree : ChangeTree) (region : List Decision) (regions : List (List Decision)) (rest : List WaitNode)
      → TreeCertifies problem penalty cost region tree
      → (are_trees (region ∷ regions) (preorder tree ++ rest) ≡ are_trees regions rest)
      × (any_low problem penalty cost (leaves_of (region ∷ regions) (preorder tree ++ rest))
      ≡ any_low problem penalty cost (leaves_of regions rest))
  unfolding are_trees leaves_of TreeCertifies preorder
  tree_passes leaf region regions rest shows = grind arith
  tree_passes (fork change keeping dropping) region regions rest shows =
      grind (
        arith,
        append_assoc,
        tree_passes keeping (decided region change decision.Kept) (decided region change decision.Dropped ∷ regions)
            (preorder dropping ++ rest) shows.1,
        tree_passes dropping (decided region change decision.Dropped) regions rest shows.2,
      )

  pub tree_of_nodes : (nodes : List WaitNode) → Certifies problem penalty cost nodes
      → (are_tree problem nodes ≡ true) × (has_low_leaf problem penalty cost nodes ≡ false)
  unfolding are_trees leaves_of
  tree_of_nodes nodes certifies =
      let passes = tree_passes certifies.tree (open_region problem) [] [] certifies.shows in grind
      (arith, append-nil)
