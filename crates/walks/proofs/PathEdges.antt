-- A path has each edge once: the further from its end, the nearer to its start.
use Rattle.plan_num.proofs.Common.{◌≡◌, ℕ, pos, zero, suc, ◌+◌, ◌<◌, ◌≤◌, ◌≤ℤ◌, Bool, true, false}
use Rattle.plan_num.proofs.Common.{◌||◌, nat_eq, List, [], ◌∷◌, length, get_or, refl, ap, subst}
use Rattle.plan_num.proofs.Common.{sym, ◌∙◌, arith, Option, Some, None, option_map, option_and_then}
use Rattle.plan_num.proofs.Common.{unwrap_or, inl, inr, ◌⊎◌, All, list_any, eqb-true, cases_Bool}
use Rattle.plan_num.proofs.Common.{cases_eq, or_cases, nat_eq_equiv, ints, All-get_or, All-nil}
use Rattle.plan_num.proofs.Common.{All-push, list_any-append, position-Some, IsDistinct-push}
use Rattle.plan_num.proofs.Common.{slice_get-get_or, same_Some}
use Rattle.std.specs.List.{IsDistinct}
use Rattle.walks.specs.declared.edge.Edge.{Edge}
use Rattle.walks.specs.Networks.{NetworkParts, IsEdge, IsNetwork}
use Rattle.walks.specs.Walks.{across, edge_length, least_sums}
use Rattle.walks.specs.Paths.{ends_least, last_edge, stop_before, path_within, path, length_to, IsSimple}
use Rattle.walks.proofs.PathSteps.{no_edge, none_there, none_before, last_step}
use Rattle.plan_num.proofs.Tests.{only_true}

-- ---- one step

-- an edge as the last one of a least walk to a stop: where it comes from, and the least lengths
pub record IsStep (lengths : ℕ → Option ℕ) (to : ℕ) (edge : Edge) : Type 0 where
  pub before : ℕ
  pub far : ℕ
  pub near : ℕ
  pub goes : across edge to ≡ Some before
  pub reached : lengths to ≡ Some far
  pub came : lengths before ≡ Some near
  pub added : far ≡ near + edge_length edge

pub is_step : (lengths : ℕ → Option ℕ) (to : ℕ) (edge : Edge) → ends_least lengths to edge ≡ true
    → IsStep lengths to edge
is_step lengths to edge e = grind (arith, option_map, option_and_then, eqb-true)

-- the two ends of an edge that is crossed
pub ends_are : (edge : Edge) (to before : ℕ) → across edge to ≡ Some before
    → ((edge.left ≡ to) × (edge.right ≡ before)) ⊎ ((edge.right ≡ to) × (edge.left ≡ before))
ends_are edge to before e = grind arith

pub some_length : (n : ℕ) (edge : Edge) → IsEdge n edge → 0 < edge_length edge
some_length n edge sound = let long : pos 1 ≤ℤ edge.length = grind arith in omega (arith, ints)

-- no edge goes on and comes back
not_back : (lengths : ℕ → Option ℕ) (n left right : ℕ) (edge : Edge) (far near back away : ℕ)
    → IsEdge n edge → lengths left ≡ Some far → lengths right ≡ Some near
    → far ≡ near + edge_length edge → lengths right ≡ Some back → lengths left ≡ Some away
    → back ≡ away + edge_length edge → ⊥
not_back lengths n left right edge far near back away sound a b over c d under = grind arith

-- an edge ends least walks to one stop alone
one_end : (lengths : ℕ → Option ℕ) (n : ℕ) (edge : Edge) (to other : ℕ) → IsEdge n edge
    → IsStep lengths to edge → IsStep lengths other edge → to ≡ other
one_end lengths n edge to other sound one two =
    elim (ends_are edge to one.before one.goes) [
      | inl p ↦ elim (ends_are edge other two.before two.goes) [
        | inl q ↦ sym p.0 ∙ q.0
        | inr q ↦ absurd (not_back lengths n edge.left edge.right edge one.far one.near two.far
            two.near sound
            (ap lengths p.0 ∙ one.reached) (ap lengths p.1 ∙ one.came) one.added
            (ap lengths q.0 ∙ two.reached) (ap lengths q.1 ∙ two.came) two.added)
      ]
      | inr p ↦ elim (ends_are edge other two.before two.goes) [
        | inl q ↦ absurd (not_back lengths n edge.right edge.left edge one.far one.near two.far
            two.near sound
            (ap lengths p.0 ∙ one.reached) (ap lengths p.1 ∙ one.came) one.added
            (ap lengths q.0 ∙ two.reached) (ap lengths q.1 ∙ two.came) two.added)
        | inr q ↦ sym p.0 ∙ q.0
      ]
    ]

-- ---- whole paths

module _ (edges : List Edge) (lengths : ℕ → Option ℕ) (n from : ℕ)
    (sound : All (IsEdge n) edges) where
  -- the edge of an index ends a least walk that is no longer than a length
  record EndsWithin (length index : ℕ) : Type 0 where
    stop : ℕ
    step : IsStep lengths stop (get_or edges index no_edge)
    within : step.far ≤ length

  pub last_is_step : (at index : ℕ) → last_edge edges lengths at ≡ Some index
      → (index < length edges) × IsStep lengths at (get_or edges index no_edge)
  last_is_step at index is = grind (arith, position-Some, no_edge, is_step, get_or)

  pub comes_from : (at index : ℕ) (here : index < length edges)
      (step : IsStep lengths at (get_or edges index no_edge))
      → stop_before edges index at ≡ step.before
  comes_from at index here step =
      grind (arith, unwrap_or, option_and_then, slice_get-get_or, no_edge)

  none_in : (index : ℕ) (some : List ℕ) → some ≡ [] → list_any (nat_eq index) some ≡ true → ⊥
  none_in index some none e = let no : list_any (nat_eq index) some ≡ false =
      ap (list_any (nat_eq index)) none in cc

  -- each edge of a path to a stop ends a least walk that is no longer than the one to the stop
  path_nearer : (more at far index : ℕ) → lengths at ≡ Some far
      → list_any (nat_eq index) (path_within edges lengths more from at) ≡ true
      → EndsWithin far index
  unfolding path_within
  path_nearer zero at far index reached e = cc
  path_nearer (suc more) at far index reached e =
      elim (cases_eq at from) [
        | inl same ↦ absurd (none_in index _ (none_there edges lengths from (suc more) at same) e)
        | inr apart ↦
            elim (last_edge edges lengths at) as (λ last. last_edge edges lengths at ≡ last
            → EndsWithin far index) [
              | None ↦ λ is. grind (arith, none_in, none_before)
              | Some last ↦ λ is.
                  let p = last_is_step at last is in
                  let front = path_within edges lengths more from (stop_before edges last at) in
                  let in_front_or_last : (list_any (nat_eq index) front ||
                  (nat_eq index last || false)) ≡ true =
                  sym (ap (list_any (nat_eq index))
                  (last_step edges lengths from more at last apart is)
                  ∙ list_any-append (nat_eq index) front (last ∷ [])) ∙ e in
                  elim (or_cases _ _ in_front_or_last) [
                    | inl before ↦
                        let near = ap lengths (comes_from at last p.0 p.1) ∙ p.1.came in
                        let so_far = path_nearer more
                        (stop_before edges last at) p.1.near index near before in
                        let whole : p.1.far ≡ far = same_Some _ _ (sym p.1.reached ∙ reached) in
                        let sum = p.1.added in
                        let within = so_far.within in
                        record { stop = so_far.stop; step = so_far.step; within = omega arith }
                    | inr here ↦
                        let same : index ≡ last = eqb-true index last (only_true _ here) in
                        let whole : p.1.far ≡ far = same_Some _ _ (sym p.1.reached ∙ reached) in
                        subst (EndsWithin far) (sym same)
                        (record { stop = at; step = p.1; within = omega arith })
                  ]
            ] refl
      ]

  -- so the last edge of a path is not one of those before it
  pub last_is_new : (more at last : ℕ) → last_edge edges lengths at ≡ Some last
      → list_any (nat_eq last) (path_within edges lengths more from (stop_before edges last at))
      ≡ false
  last_is_new more at last is =
      let p = last_is_step at last is in
      let edge = get_or edges last no_edge in
      let own = All-get_or (IsEdge n) edges last no_edge p.0 sound in
      elim (cases_Bool (list_any (nat_eq last) (path_within edges lengths more from
      (stop_before edges last at)))) [
        | inl old ↦
            let front = path_nearer more (stop_before edges last at) p.1.near last
            (ap lengths (comes_from at last p.0 p.1) ∙ p.1.came) old in
            let same : front.stop ≡ at = one_end lengths n edge front.stop at own front.step p.1 in
            let far : front.step.far ≡ p.1.far =
            same_Some _ _ (sym front.step.reached ∙ ap lengths same ∙ p.1.reached) in
            let sum = p.1.added in
            let within = front.within in
            let long = some_length n edge own in
            absurd (omega arith)
        | inr fresh ↦ fresh
      ]

  -- the edges of a path differ
  pub path_apart : (more at : ℕ) → IsDistinct nat_eq (path_within edges lengths more from at)
  unfolding path_within IsDistinct
  path_apart zero at = tt
  path_apart (suc more) at =
      elim (cases_eq at from) [
        | inl same ↦ grind (arith, nat_eq, none_there)
        | inr apart ↦
            elim (last_edge edges lengths at) as (λ last. last_edge edges lengths at ≡ last
            → IsDistinct nat_eq (path_within edges lengths (suc more) from at)) [
              | None ↦ λ is. grind (arith, nat_eq, none_before)
              | Some last ↦ λ is.
                  subst (IsDistinct nat_eq)
                  (sym (last_step edges lengths from more at last apart is))
                  (IsDistinct-push nat_eq_equiv (path_within edges lengths more from
                  (stop_before edges last at)) last
                  (path_apart more (stop_before edges last at)) (last_is_new more at last is))
            ] refl
      ]

  -- and are edges of the network
  pub path_there : (more at : ℕ)
      → All (λ index. index < length edges) (path_within edges lengths more from at)
  unfolding path_within
  path_there zero at = All-nil (λ (index : ℕ). index < length edges)
  path_there (suc more) at =
      elim (cases_eq at from) [
        | inl same ↦ grind (arith, none_there, All-nil)
        | inr apart ↦
            elim (last_edge edges lengths at) as (λ last. last_edge edges lengths at ≡ last → All
            (λ index. index < length edges) (path_within edges lengths (suc more) from at)) [
              | None ↦ λ is. grind (arith, none_before, All-nil)
              | Some last ↦ λ is.
                  subst (All (λ index. index < length edges))
                  (sym (last_step edges lengths from more at last apart is))
                  (All-push (λ index. index < length edges)
                  (path_within edges lengths more from (stop_before edges last at)) last
                  (path_there more (stop_before edges last at)) (last_is_step at last is).0)
            ] refl
      ]

-- a path of a network has only its edges, and each of them once
pub path_simple : (network : NetworkParts) (from to : ℕ) → IsNetwork network
    → IsSimple network.edges (path network from to)
path_simple network from to sound =
    let lengths = length_to (least_sums network edge_length from) in
    record {
      apart = path_apart network.edges lengths (length network.stops) from sound.edges
          (length network.stops) to;
      there = path_there network.edges lengths (length network.stops) from sound.edges
          (length network.stops) to;
    }
