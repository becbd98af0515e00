-- Each drive of a run goes over its edge, from the one of its ends to the other.
use Rattle.plan_num.proofs.Common.{◌≡◌, ℕ, zero, suc, ◌+◌, ◌*◌, ◌-◌, ◌%◌, ◌<◌, arith, ◌⊎◌, inl, inr}
use Rattle.plan_num.proofs.Common.{All, List, [], ◌∷◌, length, get_or, refl, ap, sym, ◌∙◌, Some}
use Rattle.plan_num.proofs.Common.{None, cons_option, get_or-reverse, All-head, All-tail}
use Rattle.plan_num.proofs.Common.{slice_get-get_or, same_Some}
use Rattle.event_tables.specs.declared.direction.Direction.{Direction}
use Rattle.event_tables.specs.declared.direction.Direction.TheVariants as direction
use Rattle.line_walks.specs.Pools.{LineParts, walk_from, or_walk, walk_of, IsLine}
use Rattle.walks.specs.declared.edge.Edge.{Edge}
use Rattle.walks.proofs.Common.{NetworkParts, edges_at, across}
use Rattle.event_activity.specs.ActivitiesOfRuns.{Crosses}
use Rattle.event_activity.specs.Runs.{along, no_edge, edge_at, run_event}

-- two stops are the two ends of an edge, either way
abbrev AreEnds : Edge → ℕ → ℕ → Type 0
AreEnds edge from to = ((from ≡ edge.left) × (to ≡ edge.right)) ⊎ ((from ≡ edge.right) × (to
    ≡ edge.left))

turned : (edge : Edge) (from to : ℕ) → AreEnds edge from to → AreEnds edge to from
turned edge from to (inl ends) = inr (ends.1, ends.0)
turned edge from to (inr ends) = inl (ends.1, ends.0)

pub across_ends : (edge : Edge) (stop next : ℕ) → across edge stop ≡ Some next → AreEnds edge stop next
across_ends edge stop next goes = grind arith

-- a walk over an edge and others
pub record IsStep (edge : Edge) (edges : List Edge) (stop : ℕ) (stops : List ℕ) : Type 0 where
  pub next : ℕ
  pub rest : List ℕ
  pub goes : across edge stop ≡ Some next
  pub walk : walk_from next edges ≡ Some rest
  pub are : stop ∷ rest ≡ stops

pub step_of : (edge : Edge) (edges : List Edge) (stop : ℕ) (stops : List ℕ)
    → walk_from stop (edge ∷ edges) ≡ Some stops → IsStep edge edges stop stops
unfolding walk_from
step_of edge edges stop stops e = grind arith

-- it begins at its stop
begins : (edges : List Edge) (stop : ℕ) (stops : List ℕ) (d : ℕ) → walk_from stop edges ≡ Some stops
    → get_or stops 0 d ≡ stop
unfolding walk_from
begins [] stop stops d e = let same : stop ∷ [] ≡ stops = same_Some _ _ e in grind (arith, get_or)
begins (edge ∷ edges) stop stops d e =
    ap (λ all. get_or all 0 d) (sym (step_of edge edges stop stops e).are)

-- and goes over each edge
walk_ends : (edges : List Edge) (stop : ℕ) (stops : List ℕ) (j : ℕ) (none : Edge) (d : ℕ)
    → walk_from stop edges ≡ Some stops → j < length edges
    → AreEnds (get_or edges j none) (get_or stops j d) (get_or stops (suc j) d)
walk_ends [] stop stops j none d e h = absurd (omega (arith, h))
walk_ends (edge ∷ edges) stop stops zero none d e h =
    let step = step_of edge edges stop stops e in grind (arith, get_or, begins, across_ends)
walk_ends (edge ∷ edges) stop stops (suc j) none d e h =
    let step = step_of edge edges stop stops e in grind (
      arith,
      get_or,
      walk_ends edges step.next
          step.rest j none d step.walk (omega (arith, h)),
    )

walk_of_ends : (edges : List Edge) (stops : List ℕ) (j : ℕ) (none : Edge) (d : ℕ)
    → walk_of edges ≡ Some stops → j < length edges
    → AreEnds (get_or edges j none) (get_or stops j d) (get_or stops (suc j) d)
walk_of_ends [] stops j none d e h = absurd (omega (arith, h))
walk_of_ends (edge ∷ edges) stops j none d e h =
    elim (walk_from edge.left (edge ∷ edges)) as (λ left. walk_from edge.left (edge ∷ edges) ≡ left
    → or_walk left (walk_from edge.right (edge ∷ edges)) ≡ Some stops
    → AreEnds (get_or (edge ∷ edges) j none) (get_or stops j d) (get_or stops (suc j) d)) [
      | None ↦ λ l k. walk_ends (edge ∷ edges) edge.right stops j none d k h
      | Some found ↦ λ l k. walk_ends (edge ∷ edges) edge.left stops j none d (l ∙ k) h
    ] refl e

module _ (edges : List Edge) where
  -- the edges of some indexes are as many, and each is that of its index
  record AreAt (indexes : List ℕ) : Type 0 where
    size : length (edges_at edges indexes) ≡ length indexes
    each : (j : ℕ) → j < length indexes
        → get_or (edges_at edges indexes) j no_edge ≡ get_or edges (get_or indexes j 0) no_edge

  are_at : (indexes : List ℕ) → All (λ index. index < length edges) indexes → AreAt indexes
  are_at [] there = record { size = refl; each = λ j h. absurd (omega (arith, h)) }
  are_at (index ∷ indexes) there =
      let h = All-head (λ index. index < length edges) index indexes there in
      let rest = are_at indexes (All-tail (λ index. index < length edges) index indexes there) in
      let is : edges_at edges (index ∷ indexes)
      ≡ get_or edges index no_edge ∷ edges_at edges indexes =
      ap (λ found. cons_option found (edges_at edges indexes))
      (slice_get-get_or edges index no_edge h) in
      record {
        size = ap length is ∙ ap suc rest.size;
        each = λ j within. ap (λ all. get_or all j no_edge) is ∙ at_one index indexes rest j within;
      }
    where
      at_one : (index : ℕ) (indexes : List ℕ) → AreAt indexes → (j : ℕ)
          → j < length (index ∷ indexes)
          → get_or (get_or edges index no_edge ∷ edges_at edges indexes) j no_edge
          ≡ get_or edges (get_or (index ∷ indexes) j 0) no_edge
      at_one index indexes rest zero within = refl
      at_one index indexes rest (suc j) within = rest.each j (omega (arith, within))

module _ (network : NetworkParts) (line : LineParts) (is : IsLine network.edges line) where
  -- the stops beside an edge of a line are its ends
  line_ends : (j : ℕ) → j < length line.edges → AreEnds (edge_at network (get_or line.edges j 0))
      (get_or line.stops j 0) (get_or line.stops (suc j) 0)
  line_ends j h =
      let at = are_at network.edges line.edges is.there in grind (arith, get_or, walk_of_ends)

  along_ends : (way : Direction) (j : ℕ) → j < length line.edges
      → AreEnds (edge_at network (get_or (along way line.edges) j 0))
      (get_or (along way line.stops) j 0) (get_or (along way line.stops) (suc j) 0)
  along_ends direction.Forward j h = line_ends j h
  along_ends direction.Backward j h = grind (arith, get_or-reverse, turned, get_or, line_ends)

  -- so a drive of a run goes over its edge
  pub drive_crosses : (way : Direction) (repetition place : ℕ) → place + 1 < 2 * length line.edges
      → place % 2 ≡ 0 → Crosses network (run_event network line way repetition place).edge
      (run_event network line way repetition place) (run_event network line way repetition
      (place + 1))
  drive_crosses way repetition place inside even = grind (arith, get_or, along_ends)
