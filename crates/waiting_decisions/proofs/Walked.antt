-- A node more of a walk.
use Rattle.plan_num.proofs.Common.{arith, ◌≡◌, ℕ, ℤ, ◌||◌, cond, true, false, List, [], ◌∷◌, ap}
use Rattle.plan_num.proofs.Common.{int_lt}
use Rattle.waiting_decisions.specs.declared.node.WaitNode.{WaitNode}
use Rattle.waiting_decisions.specs.declared.node.WaitNode.TheVariants as node
use Rattle.waiting_decisions.specs.Certified.{are_trees, leaves_of}
use Rattle.waiting_decisions.specs.Paths.{GoesOn, region_in, region_of, regions_in, waiting}
use Rattle.waiting_decisions.specs.Regions.{bound_of, is_free_at}
use Rattle.waiting_decisions.specs.Walks.{GoesOver, Walking, is_whole}

module _ (penalty : ℕ) (cost : ℤ) (before : Walking) (waits : before.is_waiting ≡ true) where
  pub over_leaf : (after : Walking) → GoesOn before.path after.path after.is_waiting
      → after.is_low ≡ (before.is_low || int_lt (bound_of before.path.problem penalty (region_in before.path)) cost)
      → GoesOver penalty cost node.Leaf before after
  unfolding are_trees leaves_of
  over_leaf after goes low = grind arith

  pub over_split : (change : ℕ) → is_free_at (region_in before.path) change ≡ true → (after : Walking)
      → after ≡ record before {
        path = record before.path {
          decided = record {
            change = change;
            kept = true;
          } ∷ before.path.decided;
        };
      }
      → GoesOver penalty cost (node.Split change) before after
  unfolding are_trees leaves_of region_of waiting
  over_split change free after is = grind arith

  pub no_split : (change : ℕ) → is_free_at (region_in before.path) change ≡ false → (rest : List WaitNode)
      → is_whole before (node.Split change ∷ rest) ≡ false
  unfolding are_trees
  no_split change free rest = grind arith

pub none_waits : (before : Walking) → before.is_waiting ≡ false → (at : WaitNode) (rest : List WaitNode)
    → is_whole before (at ∷ rest) ≡ false
unfolding are_trees
none_waits before none at rest = ap (λ b. are_trees (cond b (regions_in before.path) []) (at ∷ rest)) none
