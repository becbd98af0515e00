-- The waiting decision that a listing gives within a budget of entries.
use Rattle.std.specs.Prelude.{ℕ, ◌+◌, ◌^◌, ◌≤◌, nat_le, min, if◌then◌else◌, List, length, take, Option, Some, None}
use Rattle.std.specs.Prelude.{IsSome, option_map}
use Rattle.propagation.specs.Problems.{DelayProblem}
use Rattle.waiting_decisions.specs.declared.node.WaitNode.{WaitNode}
use Rattle.waiting_decisions.specs.declared.waits.Waits.{Waits}
use Rattle.waiting_decisions.specs.Listings.{Choice, Entry, best_after, nodes_of}

-- a choice with the tree that marks it, or without
abbrev pub with_tree : Option (List WaitNode) → Choice → Waits
with_tree tree choice = record { kept = choice.kept; cost = choice.cost; tree = tree }

-- the last choice that entries find, with a tree or without
abbrev pub last_found : Option (List WaitNode) → List Entry → Option Waits
last_found tree entries = option_map (with_tree tree) (best_after None entries)

-- the decision of a listing within a budget: where it is no longer than that, the last choice
-- found, marked by the whole listing; else the last one found among so many entries, without a
-- mark, and none where these find none
unfoldable pub waits_within : ℕ → List Entry → Option Waits
waits_within budget entries =
    if nat_le (length entries) budget then last_found (Some (nodes_of entries)) entries
    else last_found None (take budget entries)

-- how many entries are listed within it
abbrev pub entries_listed : ℕ → List Entry → ℕ
entries_listed budget entries = min budget (length entries)

-- a budget that finds something, whatever the delays are: one more than there are changes
abbrev pub FindsSome : DelayProblem → ℕ → Type 0
FindsSome problem budget = length problem.changes + 1 ≤ budget

-- a budget that is never spent: as many entries as a whole tree over all changes has
abbrev pub IsEnough : DelayProblem → ℕ → Type 0
IsEnough problem budget = 2 ^ (length problem.changes + 1) ≤ budget + 1

-- a waiting decision is there, and it has the tree that proves it
abbrev pub IsMarked : Option Waits → Type 0
IsMarked None = ⊥
IsMarked (Some waits) = IsSome waits.tree
