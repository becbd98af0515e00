-- Nodes have no fault where they certify a cost, and only there.
use Rattle.plan_num.proofs.Common.{◌≡◌, ℕ, ℤ, zero, suc, ◌+◌, ◌≤◌, ◌==◌, ◌∙◌, ◌↔◌, Bool, true}
use Rattle.plan_num.proofs.Common.{false, if◌then◌else◌, List, [], ◌∷◌, ◌++◌, length, slice_get}
use Rattle.plan_num.proofs.Common.{Option, Some, None, option_map, option_and_then, map, All, refl}
use Rattle.plan_num.proofs.Common.{ap, sym, arith, AllByRecursion, enumerate_from, flat_map}
use Rattle.plan_num.proofs.Common.{false≢true, ne_eqb, append_assoc, append-nil, length-append}
use Rattle.plan_num.proofs.Common.{All-set}
use Rattle.line_cost_model.specs.declared.range.LineRange.{LineRange}
use Rattle.line_cost_model.proofs.Common.{CostedLine, ProblemParts, most_of, part_from, part_up_to}
use Rattle.line_cost_model.proofs.Common.{root_of}
use Rattle.line_concepts.specs.declared.fault.TreeFault.{TreeFault}
use Rattle.line_concepts.specs.declared.node.Node.{Node}
use Rattle.line_concepts.specs.declared.node.Node.TheVariants as node
use Rattle.line_concepts.specs.Certified.{Certifies, TreeCertifies}
use Rattle.line_concepts.specs.TreeFaults.{placed_faults, placed_in, shape_of, splits_outside}
use Rattle.line_concepts.specs.TreeFaults.{exceeds_costs, is_below, is_no_point, is_not_empty}
use Rattle.line_concepts.specs.TreeFaults.{tree_faults, tree_in}
use Rattle.line_concepts.specs.Trees.{NodeTree, PlacedNode, ReadTree, leaf, fork, first_tree}
use Rattle.line_concepts.specs.Trees.{placed_over, preorder}
use Rattle.line_concepts.proofs.Leaves.{InOrder, Passes, leaf_passes, leaf_shows, not_outside}
use Rattle.line_concepts.proofs.Leaves.{splits_inside}
use Rattle.line_concepts.proofs.Shapes.{IsProper, tree_begins}

-- ---- no fault of a kind

-- no node fails a test
abbrev NoneFails : (List LineRange → Node → Bool) → List PlacedNode → Type 0
NoneFails test placed = AllByRecursion (λ at. test at.region at.node ≡ false) placed

module _ (test : List LineRange → Node → Bool) (fault : ℕ → TreeFault) where
  abbrev own : ℕ × PlacedNode → List TreeFault
  own at = if test at.1.region at.1.node then fault at.0 ∷ [] else []

  none_first : (fails : Bool) (place : ℕ) (rest : List TreeFault)
      → (if fails then fault place ∷ [] else []) ++ rest ≡ [] → (fails ≡ false) × (rest ≡ [])
  none_first true place rest h = absurd (cc)
  none_first false place rest h = (refl, h)

  none_from : (place : ℕ) (placed : List PlacedNode) → flat_map own (enumerate_from place placed)
      ≡ []
      → NoneFails test placed
  none_from place [] h = tt
  none_from place (at ∷ rest) h =
      let parts = none_first (test at.region at.node) place
      (flat_map own (enumerate_from (place + 1) rest)) h in
      (parts.0, none_from (place + 1) rest parts.1)

  all_from : (place : ℕ) (placed : List PlacedNode) → NoneFails test placed
      → flat_map own (enumerate_from place placed) ≡ []
  all_from place [] h = refl
  all_from place (at ∷ rest) h = rw h.0 (all_from (place + 1) rest h.1)

-- ---- no fault of any node

front_none : {X : Type 0} (xs ys : List X) → xs ++ ys ≡ [] → (xs ≡ []) × (ys ≡ [])
front_none [] ys h = (refl, h)
front_none (x ∷ xs) ys h = absurd (cc)

module _ (problem : ProblemParts) (cost : ℤ) where
  abbrev AllPass : List PlacedNode → Type 0
  AllPass placed = AllByRecursion (λ at. Passes problem cost at.region at.node) placed

  together : (placed : List PlacedNode) → NoneFails splits_outside placed
      → NoneFails (is_not_empty problem) placed → NoneFails (exceeds_costs problem) placed
      → NoneFails (is_below problem cost) placed → NoneFails (is_no_point problem cost) placed
      → AllPass placed
  together [] a b c d e = tt
  together (at ∷ rest) a b c d e = grind (arith, together rest a.1 b.1 c.1 d.1 e.1)

  each_by : (test : List LineRange → Node → Bool)
      → ((at : PlacedNode) → Passes problem cost at.region at.node → test at.region at.node ≡ false)
      → (placed : List PlacedNode) → AllPass placed → NoneFails test placed
  each_by test f [] all = tt
  each_by test f (at ∷ rest) all = (f at all.0, each_by test f rest all.1)

  none_all_pass : (placed : List PlacedNode) → placed_faults problem cost placed ≡ []
      → AllPass placed
  none_all_pass placed h = grind (arith, front_none, together, none_from)

  all_pass_none : (placed : List PlacedNode) → AllPass placed → placed_faults problem cost placed
      ≡ []
  all_pass_none placed all = grind (arith, all_from, each_by)

  -- ---- trees

  both_pass : (a b : List PlacedNode) → AllPass (a ++ b) → AllPass a × AllPass b
  both_pass [] b all = (tt, all)
  both_pass (at ∷ a) b all = let rest = both_pass a b all.1 in ((all.0, rest.0), rest.1)

  pass_both : (a b : List PlacedNode) → AllPass a → AllPass b → AllPass (a ++ b)
  pass_both [] b first second = second
  pass_both (at ∷ a) b first second = (first.0, pass_both a b first.1 second)

  tree_shows : (region : List LineRange) (tree : NodeTree) → All InOrder region → IsProper tree
      → AllPass (placed_over region tree) → TreeCertifies problem cost region tree
  unfolding placed_over TreeCertifies IsProper
  tree_shows region (leaf node) order proper all = leaf_shows problem cost region node order proper
      all.0
  tree_shows region (fork line at lower upper) order proper all =
      let inside = splits_inside region line at all.0.split in
      let parts = both_pass (placed_over (part_up_to region line at) lower)
      (placed_over (part_from region line (at + 1)) upper) all.1 in grind (
        arith,
        All-set,
        InOrder,
        tree_shows (part_up_to region line at) lower (All-set InOrder region line _ inside.0
            order) proper.0 parts.0,
        tree_shows (part_from region line (at + 1)) upper (All-set
            InOrder region line _ (omega (arith, inside.1)) order) proper.1 parts.1,
      )

  tree_passes : (region : List LineRange) (tree : NodeTree) → TreeCertifies problem cost region tree
      → IsProper tree × AllPass (placed_over region tree)
  unfolding placed_over TreeCertifies IsProper
  tree_passes region (leaf node) shown = let passes = leaf_passes problem cost region node shown in
      (passes.0, (passes.1, tt))
  tree_passes region (fork line at lower upper) shown =
      grind (
        arith,
        not_outside,
        pass_both,
        tree_passes (part_up_to region line at) lower shown.1,
        tree_passes (part_from region line (at + 1)) upper shown.2,
      )

-- ---- the tree that nodes are

-- the preorder of a tree is read as that tree
read_back : (tree : NodeTree) → IsProper tree → (levels : ℕ) (rest : List Node)
    → length (preorder tree) ≤ levels → first_tree levels (preorder tree ++ rest)
    ≡ Some (tree, rest)
unfolding preorder first_tree IsProper
read_back (leaf node) proper zero rest few = absurd (omega (arith, few))
read_back (leaf (node.Split line at)) proper (suc levels) rest few = absurd
    (false≢true (sym proper))
read_back (leaf (node.Empty edge side)) proper (suc levels) rest few = refl
read_back (leaf (node.Bound multipliers)) proper (suc levels) rest few = refl
read_back (leaf node.Point) proper (suc levels) rest few = refl
read_back (fork line at lower upper) proper zero rest few = absurd (omega (arith, few))
read_back (fork line at lower upper) proper (suc levels) rest few =
    let size = length-append (preorder lower) (preorder upper) in grind (
      arith,
      option_and_then,
      append_assoc,
      option_map,
      read_back lower proper.0 levels (preorder upper ++ rest) (omega
          (arith, few, size)),
      read_back upper proper.1 levels rest (omega (arith, few, size)),
    )

whole_is : (tree : NodeTree) (nodes : List Node) → IsProper tree → preorder tree ≡ nodes
    → tree_in nodes ≡ Some (tree, [])
whole_is tree nodes proper whole =
    ap (first_tree (length nodes)) (sym (append-nil (preorder tree) ∙ whole))
    ∙ read_back tree proper (length nodes) [] (omega (arith, ap length whole))

root_in_order : (most : CostedLine → ℕ) (lines : List CostedLine)
    → All InOrder (map (λ line. record { lo = 0; hi = most line }) lines)
root_in_order most [] k d h = absurd (omega (arith, h))
root_in_order most (line ∷ lines) zero d h = omega arith
root_in_order most (line ∷ lines) (suc k) d h = root_in_order most lines k d (omega (arith, h))

-- nothing is left of nodes of a right shape
pub no_rest : (rest : List Node) (faults : TreeFault)
    → (if length rest == 0 then [] else faults ∷ []) ≡ []
    → rest ≡ []
no_rest [] faults h = refl
no_rest (node ∷ rest) faults h = grind (arith, ne_eqb)

module _ (problem : ProblemParts) (cost : ℤ) (nodes : List Node) where
  certified_by : (read : ReadTree) → tree_in nodes ≡ read
      → shape_of (length nodes) read ++ placed_faults problem cost (placed_in problem read) ≡ []
      → Certifies problem cost nodes
  certified_by None is none = absurd (cc)
  certified_by (Some read) is none =
      let parts = front_none _ _ none in
      let begins = tree_begins (length nodes) nodes read is in
      let left = no_rest read.1 _ parts.0 in
      record {
        tree = read.0;
        whole = grind (arith, append-nil);
        shows = tree_shows problem cost (root_of problem) read.0
            (root_in_order (most_of problem.edges) problem.lines) begins.proper
            (none_all_pass problem cost (placed_over (root_of problem) read.0) parts.1);
      }

  none_by : Certifies problem cost nodes → tree_faults problem cost nodes ≡ []
  unfolding tree_faults
  none_by shown = grind (arith, tree_passes, whole_is, all_pass_none)

  -- nodes have no fault where they certify a cost, and only there
  pub no_fault_certifies : (tree_faults problem cost nodes ≡ []) ↔ Certifies problem cost nodes
  unfolding tree_faults
  no_fault_certifies = (λ none. certified_by (tree_in nodes) refl none, none_by)

  first_none : {X : Type 0} (xs : List X) (first : Option X) → first ≡ slice_get xs 0
      → (first ≡ None) ↔ (xs ≡ [])
  first_none [] first is = (λ _. refl, λ _. is)
  first_none (x ∷ xs) first is = (λ none. absurd (cc), λ none. absurd (cc))

  -- the same of the first fault
  pub none_certifies : (first : Option TreeFault) → first
      ≡ slice_get (tree_faults problem cost nodes) 0
      → (first ≡ None) ↔ Certifies problem cost nodes
  none_certifies first is = grind (arith, first_none, no_fault_certifies)
