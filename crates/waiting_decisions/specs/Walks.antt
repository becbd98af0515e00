-- Inner words: the walk over the nodes of a tree from any hand.
use Rattle.std.specs.Prelude.{ℕ, ℤ, ◌≡◌, ◌||◌, if◌then◌else◌, Bool, false, List, [], ◌∷◌, Option, Some, None, MatchBool}
use Rattle.delay_trials.specs.Trials.{TrialParts}
use Rattle.waiting_decisions.specs.declared.decision.Decision.{Decision}
use Rattle.waiting_decisions.specs.declared.node.WaitNode.{WaitNode}
use Rattle.waiting_decisions.specs.declared.fault.TreeFault.{TreeFault}
use Rattle.waiting_decisions.specs.declared.fault.TreeFault.TheVariants as fault
use Rattle.waiting_decisions.specs.Certified.{any_low, are_trees, leaves_of}
use Rattle.waiting_decisions.specs.Paths.{regions_in}

-- a walk between two nodes: where it has come to, whether a region waits there, and whether a leaf
-- was low
pub record Walking : Type 0 where
  pub path : TrialParts
  pub is_waiting : Bool
  pub is_low : Bool

-- the regions that still wait
abbrev pub regions_left : Walking → List (List Decision)
regions_left walk = if walk.is_waiting then regions_in walk.path else []

-- nodes that follow are whole trees for what waits
abbrev pub is_whole : Walking → List WaitNode → Bool
is_whole walk nodes = are_trees (regions_left walk) nodes

-- a leaf was low, or one that follows is
abbrev pub is_low : ℕ → ℤ → Walking → List WaitNode → Bool
is_low penalty cost walk nodes =
    walk.is_low || any_low walk.path.problem penalty cost (leaves_of (regions_left walk) nodes)

-- what a node that fits leaves, whatever follows
pub record GoesOver (penalty : ℕ) (cost : ℤ) (node : WaitNode) (before after : Walking) : Type 0 where
  pub same : after.path.problem ≡ before.path.problem
  pub whole : (rest : List WaitNode) → is_whole before (node ∷ rest) ≡ is_whole after rest
  pub low : (rest : List WaitNode)
      → is_low penalty cost before (node ∷ rest) ≡ is_low penalty cost after rest

-- a node fits, or there is no whole tree
abbrev pub TakesNode : ℕ → ℤ → WaitNode → Walking → Walking → Bool → Type 0
TakesNode penalty cost node before after fits =
    MatchBool fits (GoesOver penalty cost node before after)
    ((rest : List WaitNode) → is_whole before (node ∷ rest) ≡ false)

-- the fault where no more nodes follow
abbrev pub fault_behind : Walking → Option TreeFault
fault_behind walk =
    if walk.is_waiting then Some fault.NotWhole
    else (if walk.is_low then Some fault.LowLeaf else None)
