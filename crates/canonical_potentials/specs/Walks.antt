-- Inner words: from which node a walk over the residual graph goes on.
use Rattle.std.specs.Prelude.{ℕ, ◌≡◌, ◌+◌, ◌≤◌, ◌⊎◌, min, List, [], ◌∷◌, length, map, get_or, All}
use Rattle.std.specs.Prelude.{Option, Some, None, IsPermutation}
use Rattle.std.specs.List.{range_with_len}
use Rattle.link_plans.specs.declared.limits.TheConstants.{MOST_POTENTIAL}
use Rattle.canonical_potentials.specs.declared.walk.Waiting.{Waiting}
use Rattle.canonical_potentials.specs.Drops.{DropParts}
use Rattle.link_plans.specs.Potentials.{at}

-- the number of a node that waits: of the root, where no trip is told, or of the left node of a trip
abbrev pub number_of : DropParts → Option ℕ → ℕ
number_of drops None = drops.root
number_of drops (Some i) = get_or drops.left i 0

-- how far a node reaches: its number and its height together, as far as words go
abbrev pub reach : DropParts → Waiting → ℕ
reach drops node = min (number_of drops node.trip + node.height) 18446744073709551615

-- a node than which none of some reaches further
abbrev pub IsFurthest : DropParts → List Waiting → Waiting → Type 0
IsFurthest drops nodes node = All (λ other. reach drops other ≤ reach drops node) nodes

-- a node is taken out of some that wait, and none of them reaches further
pub record IsTakenOut (drops : DropParts) (before after : List Waiting) (node : Waiting) : Type 0 where
  pub others : IsPermutation before (node ∷ after)
  pub furthest : IsFurthest drops before node

-- one that reaches furthest is taken out and the others stay, or none waits
abbrev pub LeavesOthers : DropParts → List Waiting → List Waiting → Type 0
LeavesOthers drops before after = ((before ≡ []) × (after ≡ []))
    ⊎ ((node : Waiting) × IsTakenOut drops before after node)

-- the root waits at the middle height, and the left node of a trip above it by the potential of the trip
abbrev pub middle : ℕ
middle = MOST_POTENTIAL

abbrev pub root_waits : Waiting
root_waits = record { trip = None; height = middle }

abbrev pub trip_waits : List ℕ → ℕ → Waiting
trip_waits u i = record { trip = Some i; height = middle + at u i }

-- all nodes wait, by valid potentials
abbrev pub all_waiting : List ℕ → List Waiting
all_waiting u = root_waits ∷ map (trip_waits u) (range_with_len 0 (length u))
