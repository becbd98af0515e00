-- The stops of a line's walk, and what stands along a line.
use Rattle.plan_num.proofs.Common.{◌≡◌, ℕ, pos, ◌-◌, ◌<◌, arith, All, List, [], ◌∷◌, length, get_or}
use Rattle.plan_num.proofs.Common.{refl, subst, sym, Option, Some, cons_option, get_or-reverse}
use Rattle.plan_num.proofs.Common.{length-reverse, All-nil, All-cons, All-head, All-tail}
use Rattle.plan_num.proofs.Common.{All-get_or, slice_get-get_or, same_Some}
use Rattle.event_tables.specs.declared.direction.Direction.{Direction}
use Rattle.event_tables.specs.declared.direction.Direction.TheVariants as direction
use Rattle.line_walks.specs.Pools.{LineParts, walk_from, walk_of, IsLine}
use Rattle.walks.specs.declared.edge.Edge.{Edge}
use Rattle.walks.proofs.Common.{NetworkParts, IsEdge, IsNetwork, edges_at, across}
use Rattle.event_activity.specs.Runs.{along}
use Rattle.event_activity.proofs.Crossings.{step_of}

-- what holds of all things holds of those along a line, in each direction
pub all_along : (P : ℕ → Type 0) (way : Direction) (things : List ℕ) → All P things
    → All P (along way things)
all_along P direction.Forward things all = all
all_along P direction.Backward things all = grind (arith, length-reverse, get_or-reverse)

-- as many things stand along a line in each direction
pub length-along : (way : Direction) (things : List ℕ) → length (along way things) ≡ length things
length-along direction.Forward things = refl
length-along direction.Backward things = length-reverse things

-- the stop across an edge is one of its ends
across_inside : (count stop next : ℕ) (edge : Edge) → IsEdge count edge
    → across edge stop ≡ Some next → next < count
across_inside count stop next edge is goes = grind arith

module _ (count : ℕ) where
  abbrev Inside : ℕ → Type 0
  Inside stop = stop < count

  -- the stops of a walk are stops
  walk_inside : (edges : List Edge) (stop : ℕ) (stops : List ℕ) → All (IsEdge count) edges
      → stop < count → walk_from stop edges ≡ Some stops → All Inside stops
  unfolding walk_from
  walk_inside [] stop stops all from e =
      subst (All Inside) (same_Some _ _ e) (All-cons Inside stop [] from (All-nil Inside))
  walk_inside (edge ∷ edges) stop stops all from e =
      let step = step_of edge edges stop stops e in
      subst (All Inside) step.are (All-cons Inside stop step.rest from
      (walk_inside edges step.next step.rest (All-tail (IsEdge count) edge edges all)
      (across_inside count stop step.next edge (All-head (IsEdge count) edge edges all) step.goes) step.walk))

  walk_of_inside : (edges : List Edge) (stops : List ℕ) → All (IsEdge count) edges
      → walk_of edges ≡ Some stops → All Inside stops
  walk_of_inside [] stops all e = subst (All Inside) (same_Some _ _ e) (All-nil Inside)
  walk_of_inside (edge ∷ edges) stops all e = grind (arith, All-head, walk_inside)

  all_edges : (edges : List Edge) (indexes : List ℕ) → All (IsEdge count) edges
      → All (λ index. index < length edges) indexes → All (IsEdge count) (edges_at edges indexes)
  all_edges edges [] all there = All-nil (IsEdge count)
  all_edges edges (index ∷ indexes) all there =
      let h = All-head (λ index. index < length edges) index indexes there in
      let rest = all_edges edges indexes all (All-tail (λ index. index < length edges) index indexes
      there) in
      let at = slice_get-get_or edges index none h in
      subst (λ found. All (IsEdge count) (at_first found)) (sym at)
      (All-cons (IsEdge count) (get_or edges index none) (edges_at edges indexes)
      (All-get_or (IsEdge count) edges index none h all) rest)
    where
      none : Edge
      none = record { id = pos 0; left = 0; right = 0; length = pos 0; lower = pos 0; upper = pos 0 }

      at_first : Option Edge → List Edge
      at_first found = cons_option found (edges_at edges indexes)

-- the stops of a line are stops of the network
pub stops_inside : (network : NetworkParts) (line : LineParts) → IsNetwork network
    → IsLine network.edges line → All (λ stop. stop < length network.stops) line.stops
stops_inside network line sound is =
    walk_of_inside (length network.stops) (edges_at network.edges line.edges) line.stops
    (all_edges (length network.stops) network.edges line.edges sound.edges is.there) is.walk
