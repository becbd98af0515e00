-- What is right about a waiting decision.
use Rattle.std.specs.Prelude.{ℕ, ℤ, pos, ◌<◌, ◌≤ℤ◌, ◌≡◌, length, IfSome, All, ⊤}
use Rattle.propagation.specs.Problems.{DelayProblem}
use Rattle.waiting_decisions.specs.declared.node.WaitNode.{WaitNode}
use Rattle.waiting_decisions.specs.declared.node.WaitNode.TheVariants as node
use Rattle.waiting_decisions.specs.declared.waits.Waits.{Waits}
use Rattle.waiting_decisions.specs.Certified.{Certifies}
use Rattle.waiting_decisions.specs.Choices.{Costs, CostsAtLeast}
use Rattle.waiting_decisions.specs.declared.cost.TheConstants.{MOST_COST}

-- a cost that can be written
abbrev pub IsWritable : ℤ → Type 0
IsWritable cost = (pos 0 ≤ℤ cost) × (cost ≤ℤ pos MOST_COST)

-- a node names a change that is there, where there are so many
abbrev pub NamesChange : ℕ → WaitNode → Type 0
NamesChange changes (node.Split change) = change < changes
NamesChange changes node.Leaf = ⊤

-- a waiting decision over a day: it decides each change, and its tree names no others
pub record IsOver (problem : DelayProblem) (waits : Waits) : Type 0 where
  pub each : length waits.kept ≡ length problem.changes
  pub names : IfSome waits.tree (All (NamesChange (length problem.changes)))

-- A waiting decision is right: it costs what it says, and that can be written. Where it is marked,
-- its tree certifies that cost, and no waiting decision costs less.
pub record IsRight (problem : DelayProblem) (penalty : ℕ) (waits : Waits) : Type 0 where
  pub over : IsOver problem waits
  pub costs : Costs problem penalty waits.kept waits.cost
  pub writable : IsWritable waits.cost
  pub certified : IfSome waits.tree (Certifies problem penalty waits.cost)
  pub best : IfSome waits.tree (λ tree. CostsAtLeast problem penalty waits.cost)
