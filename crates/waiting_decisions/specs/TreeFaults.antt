-- What nodes from any hand break as the proof that no waiting decision costs less than so much.
use Rattle.std.specs.Prelude.{ℕ, ℤ, if◌then◌else◌, Bool, List, Option, Some, None}
use Rattle.propagation.specs.Problems.{DelayProblem}
use Rattle.waiting_decisions.specs.declared.fault.TreeFault.{TreeFault}
use Rattle.waiting_decisions.specs.declared.fault.TreeFault.TheVariants as fault
use Rattle.waiting_decisions.specs.declared.node.WaitNode.{WaitNode}
use Rattle.waiting_decisions.specs.Certified.{are_tree, has_low_leaf}

-- the first fault of a tree, by whether it is whole and whether a leaf is low
abbrev pub fault_by : Bool → Bool → Option TreeFault
fault_by is_whole is_low =
    if is_whole then (if is_low then Some fault.LowLeaf else None) else Some fault.NotWhole

-- the first fault of nodes: they are no whole tree of splits by free changes, or else a leaf is low
abbrev pub first_fault : DelayProblem → ℕ → ℤ → List WaitNode → Option TreeFault
first_fault problem penalty cost nodes =
    fault_by (are_tree problem nodes) (has_low_leaf problem penalty cost nodes)
