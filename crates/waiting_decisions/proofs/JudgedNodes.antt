-- The walk over nodes from any hand comes to their first fault.
use Rattle.plan_num.proofs.Common.{◌≡◌, ◌∙◌, ℕ, ℤ, ◌+◌, ◌<◌, ◌≤◌, Bool, true, false, List, [], ◌∷◌}
use Rattle.plan_num.proofs.Common.{length, drop, get_or, Option, Some, None, IfNone, refl, ap, sym}
use Rattle.plan_num.proofs.Common.{subst, arith, drop_all, drop_more}
use Rattle.propagation.proofs.Common.{DelayProblem, IsForward}
use Rattle.waiting_decisions.specs.declared.fault.TreeFault.{TreeFault}
use Rattle.waiting_decisions.specs.declared.fault.TreeFault.TheVariants as fault
use Rattle.waiting_decisions.specs.declared.node.WaitNode.{WaitNode}
use Rattle.waiting_decisions.specs.Certified.{Certifies, are_tree, are_trees, has_low_leaf, leaves_of}
use Rattle.waiting_decisions.specs.Choices.{CostsAtLeast}
use Rattle.waiting_decisions.specs.Paths.{region_of, waiting}
use Rattle.waiting_decisions.specs.TreeFaults.{fault_by, first_fault}
use Rattle.waiting_decisions.specs.Walks.{TakesNode, Walking, fault_behind, is_low, is_whole}
use Rattle.waiting_decisions.proofs.Bounds.{certified_holds}
use Rattle.waiting_decisions.proofs.TreesOfNodes.{certifies_by, tree_of_nodes}
use Rattle.plan_num.proofs.Tests.{or_false}

module _ (problem : DelayProblem) (penalty : ℕ) (cost : ℤ) (nodes : List WaitNode) where
  -- what is known of a walk behind some nodes
  pub record IsAt (walk : Walking) (i : ℕ) : Type 0 where
    pub same : walk.path.problem ≡ problem
    pub whole : is_whole walk (drop i nodes) ≡ are_tree problem nodes
    pub low : is_low penalty cost walk (drop i nodes) ≡ has_low_leaf problem penalty cost nodes

  pub at_start : (walk : Walking)
      → walk ≡ record {
        path = record { problem = problem; decided = [] };
        is_waiting = true;
        is_low = false;
      }
      → IsAt walk 0
  unfolding region_of waiting
  at_start walk is = subst (λ w. IsAt w 0) (sym is) (record { same = refl; whole = refl; low = refl })

  -- nodes that are no whole tree
  no_tree : are_tree problem nodes ≡ false → Some fault.NotWhole ≡ first_fault problem penalty cost nodes
  no_tree out = sym (ap (λ b. fault_by b (has_low_leaf problem penalty cost nodes)) out)

  module _ (walk after : Walking) (i : ℕ) (d at : WaitNode) (here : IsAt walk i)
      (inside : i < length nodes) (is : at ≡ get_or nodes i d) where
    left : drop i nodes ≡ at ∷ drop (i + 1) nodes
    left = drop_more nodes i d inside ∙ ap (λ n. n ∷ drop (i + 1) nodes) (sym is)

    pub node_fits : (fits : Bool) → fits ≡ true → TakesNode penalty cost at walk after fits
        → IsAt after (i + 1)
    node_fits fits goes_on takes = grind (arith, left)

    pub node_fails : (fits : Bool) → fits ≡ false → TakesNode penalty cost at walk after fits
        → Some fault.NotWhole ≡ first_fault problem penalty cost nodes
    node_fails fits stops takes = grind (arith, no_tree, left)

  pub at_end : (walk : Walking) (i : ℕ) → IsAt walk i → length nodes ≤ i
      → fault_behind walk ≡ first_fault problem penalty cost nodes
  unfolding are_trees leaves_of
  at_end walk i here past = grind (arith, drop_all, no_tree, or_false)

  -- ---- what a fault, or none, says of the nodes

  both_of : (is_whole is_low : Bool) → None ≡ fault_by is_whole is_low
      → (is_whole ≡ true) × (is_low ≡ false)
  both_of true false none = (refl, refl)
  both_of true true none = absurd (cc)
  both_of false is_low none = absurd (cc)

  certified : None ≡ first_fault problem penalty cost nodes → Certifies problem penalty cost nodes
  certified none = grind (arith, both_of, certifies_by)

  pub fault_proves : (answer : Option TreeFault) → answer ≡ first_fault problem penalty cost nodes
      → IfNone answer (Certifies problem penalty cost nodes)
  fault_proves None is = certified is
  fault_proves (Some why) is = tt

  pub fault_only : (answer : Option TreeFault) → answer ≡ first_fault problem penalty cost nodes
      → Certifies problem penalty cost nodes → answer ≡ None
  fault_only answer is certifies = grind (arith, tree_of_nodes)

  pub fault_least : IsForward problem → (answer : Option TreeFault)
      → answer ≡ first_fault problem penalty cost nodes → IfNone answer (CostsAtLeast problem penalty cost)
  fault_least forward None is = certified_holds problem forward penalty cost nodes (certified is)
  fault_least forward (Some why) is = tt
