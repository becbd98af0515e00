-- The first fault of nodes: that of their shape, or else the first of the nodes over their regions.
use Rattle.plan_num.proofs.Common.{◌≡◌, ℤ, ◌+◌, ◌↔◌, arith, List, ◌∷◌, ◌++◌, length, slice_get}
use Rattle.plan_num.proofs.Common.{Option, Some, None, Result, Ok, Err, IfNone, IfOk, refl, sym}
use Rattle.plan_num.proofs.Common.{false≢true, append_assoc, append-nil}
use Rattle.line_cost_model.specs.declared.range.LineRange.{LineRange}
use Rattle.line_cost_model.proofs.Common.{ProblemParts, HasEachFeasible, part_from, part_up_to}
use Rattle.line_cost_model.proofs.Common.{root_of}
use Rattle.line_concepts.specs.declared.fault.TreeFault.{TreeFault}
use Rattle.line_concepts.specs.declared.node.Node.{Node}
use Rattle.line_concepts.specs.declared.node.Node.TheVariants as node
use Rattle.line_concepts.specs.Certified.{Certifies, CostsAtLeast}
use Rattle.line_concepts.specs.TreeFaults.{placed_faults, placed_in, shape_of, tree_faults, tree_in}
use Rattle.line_concepts.specs.Trees.{NodeTree, ReadTree, leaf, fork, placed_over, preorder}
use Rattle.line_concepts.specs.Walks.{walked}
use Rattle.line_concepts.proofs.Certifying.{no_rest, none_certifies}
use Rattle.line_concepts.proofs.FirstPlaces.{first_of}
use Rattle.line_concepts.proofs.Judging.{all_placed}
use Rattle.line_concepts.proofs.Shapes.{IsProper, tree_begins}
use Rattle.line_concepts.proofs.Sound.{certified_where_each}

-- the nodes of a tree one by one are those that are placed over its region
tree_walked : (tree : NodeTree) → IsProper tree
    → (region : List LineRange) (waiting : List (List LineRange))
    (rest : List Node) → walked (region ∷ waiting) (preorder tree ++ rest)
    ≡ placed_over region tree ++ walked waiting rest
unfolding walked preorder placed_over IsProper
tree_walked (leaf (node.Split line at)) proper region waiting rest = absurd
    (false≢true (sym proper))
tree_walked (leaf (node.Empty edge side)) proper region waiting rest = refl
tree_walked (leaf (node.Bound multipliers)) proper region waiting rest = refl
tree_walked (leaf node.Point) proper region waiting rest = refl
tree_walked (fork line at lower upper) proper region waiting rest =
    let low = part_up_to region line at in
    let high = part_from region line (at + 1) in grind (
      arith,
      append_assoc,
      tree_walked lower
          proper.0 low (high ∷ waiting) (preorder upper ++ rest),
      tree_walked upper proper.1 high
          waiting rest,
    )

placed_are : (problem : ProblemParts) (nodes : List Node) (read : ReadTree) → tree_in nodes ≡ read
    → slice_get (shape_of (length nodes) read) 0 ≡ None
    → placed_in problem read ≡ all_placed problem nodes
unfolding walked placed_over
placed_are problem nodes None is none = absurd (cc)
placed_are problem nodes (Some read) is none =
    let begins = tree_begins (length nodes) nodes read is in grind (
      arith,
      no_rest,
      tree_walked,
      append-nil,
    )

module _ (problem : ProblemParts) (cost : ℤ) (nodes : List Node) where
  -- a fault of the shape is the first one
  pub shape_first : (fault : TreeFault)
      → Some fault ≡ slice_get (shape_of (length nodes) (tree_in nodes)) 0
      → Some fault ≡ slice_get (tree_faults problem cost nodes) 0
  unfolding tree_faults
  shape_first fault is = grind arith

  -- without one it is the first one of the nodes
  pub nodes_first : (first : Option TreeFault)
      → None ≡ slice_get (shape_of (length nodes) (tree_in nodes)) 0
      → first ≡ slice_get (placed_faults problem cost (all_placed problem nodes)) 0
      → first ≡ slice_get (tree_faults problem cost nodes) 0
  unfolding tree_faults
  nodes_first first none is = grind (arith, slice_get, placed_are, first_of)

  -- no fault means that no feasible concept costs less
  pub none_is_least : HasEachFeasible problem (root_of problem) → (first : Option TreeFault)
      → first ≡ slice_get (tree_faults problem cost nodes) 0
      → IfNone first (CostsAtLeast problem cost)
  none_is_least each None is =
      certified_where_each problem cost nodes each
      ((none_certifies problem cost nodes None is).0 refl)
  none_is_least each (Some fault) is = tt

  -- what follows for an answer that is no want of memory
  module _ {E : Type 0} (result : Result (Option TreeFault) E)
      (none : None ≡ slice_get (shape_of (length nodes) (tree_in nodes)) 0)
      (kept : ℤ) (same : kept ≡ cost) where
    pub answer_first : IfOk result
        (λ first. first ≡ slice_get (placed_faults problem kept (all_placed problem nodes)) 0)
        → IfOk result (λ first. first ≡ slice_get (tree_faults problem cost nodes) 0)
    answer_first answer = grind (arith, slice_get, all_placed, nodes_first)

  pub answer_exact : {E : Type 0} (result : Result (Option TreeFault) E)
      → IfOk result (λ first. first ≡ slice_get (tree_faults problem cost nodes) 0)
      → IfOk result (λ first. (first ≡ None) ↔ Certifies problem cost nodes)
  answer_exact (Ok first) is = none_certifies problem cost nodes first is
  answer_exact (Err why) is = tt

  pub answer_least : {E : Type 0} (result : Result (Option TreeFault) E)
      → IfOk result (λ _. HasEachFeasible problem (root_of problem))
      → IfOk result (λ first. first ≡ slice_get (tree_faults problem cost nodes) 0)
      → IfOk result (λ first. IfNone first (CostsAtLeast problem cost))
  answer_least (Ok first) each is = none_is_least each first is
  answer_least (Err why) each is = tt
