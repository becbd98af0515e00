-- Four stops and four edges around are a network.
use Rattle.plan_num.proofs.Common.{ℕ, ℤ, pos, List, [], ◌∷◌, refl, arith, All, ints, All-cons}
use Rattle.plan_num.proofs.Common.{All-nil}
use Rattle.std.specs.List.Sorted.{IsStrictlySortedBy}
use Rattle.walks.specs.declared.edge.Edge.{Edge}
use Rattle.walks.proofs.Common.{IsEdge, IsNetwork}

abbrev pub edge : ℤ → ℕ → ℕ → ℤ → Edge
edge id left right length =
    record { id = id; left = left; right = right; length = length; lower = pos 2; upper = pos 5 }

abbrev pub edges : List Edge
edges =
    edge (pos 1) 0 1 (pos 1000000) ∷ edge (pos 2) 1 3 (pos 3000000)
    ∷ edge (pos 3) 0 2 (pos 3000000)
    ∷ edge (pos 4) 2 3 (pos 1000000) ∷ []

first : IsEdge 4 (edge (pos 1) 0 1 (pos 1000000))
first = grind (arith, ints)

second : IsEdge 4 (edge (pos 2) 1 3 (pos 3000000))
second = grind (arith, ints)

third : IsEdge 4 (edge (pos 3) 0 2 (pos 3000000))
third = grind (arith, ints)

fourth : IsEdge 4 (edge (pos 4) 2 3 (pos 1000000))
fourth = grind (arith, ints)

all : All (IsEdge 4) edges
all =
    let last : List Edge = edge (pos 4) 2 3 (pos 1000000) ∷ [] in
    let two : List Edge = edge (pos 3) 0 2 (pos 3000000) ∷ last in
    let three : List Edge = edge (pos 2) 1 3 (pos 3000000) ∷ two in
    All-cons (IsEdge 4) (edge (pos 1) 0 1 (pos 1000000)) three first
    (All-cons (IsEdge 4) (edge (pos 2) 1 3 (pos 3000000)) two second
    (All-cons (IsEdge 4) (edge (pos 3) 0 2 (pos 3000000)) last third
    (All-cons (IsEdge 4) (edge (pos 4) 2 3 (pos 1000000)) [] fourth (All-nil (IsEdge 4)))))

pub is_network : IsNetwork (record { stops = pos 1 ∷ pos 2 ∷ pos 3 ∷ pos 4 ∷ []; edges = edges })
unfolding IsStrictlySortedBy
is_network = record {
  stops_rise = ((refl, (refl, (refl, tt))), ((refl, (refl, tt)), ((refl, tt), (tt, tt))));
  edges_rise = ((refl, (refl, (refl, tt))), ((refl, (refl, tt)), ((refl, tt), (tt, tt))));
  few_stops = omega arith;
  few_edges = omega arith;
  edges = all;
}
