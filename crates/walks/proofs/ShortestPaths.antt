-- A path goes to its end, and no walk there is shorter.
use Rattle.plan_num.proofs.Common.{◌≡◌, ◌≢◌, ℕ, ℤ, unsigned_abs, zero, suc, ◌+◌, ◌<◌, ◌≤◌, true}
use Rattle.plan_num.proofs.Common.{false, nat_eq, List, [], ◌∷◌, ◌++◌, length, get_or, slice_get}
use Rattle.plan_num.proofs.Common.{refl, ap, subst, sym, ◌∙◌, arith, Option, Some, None, option_map}
use Rattle.plan_num.proofs.Common.{is_some, inl, inr, ◌⊎◌, All, Contains, list_any, cons_option}
use Rattle.plan_num.proofs.Common.{eqb-true, cases_eq, nat_eq_equiv, length_push, get_or_default}
use Rattle.plan_num.proofs.Common.{All-get_or, filter_map-append, list_any_at, list_any-append}
use Rattle.plan_num.proofs.Common.{IsDistinct-push, length-le_from_distinct_below, slice_get-get_or}
use Rattle.plan_num.proofs.Common.{same_Some}
use Rattle.std.specs.List.{IsDistinct}
use Rattle.walks.specs.declared.edge.Edge.{Edge}
use Rattle.walks.specs.Networks.{NetworkParts, IsEdge, IsNetwork}
use Rattle.walks.specs.Walks.{edge_length, walk_sum, least_sums, IsWalk, IsLeastSum, AreLeastSums}
use Rattle.walks.proofs.Walks as walks
use Rattle.walks.specs.Paths.{ends_least, last_edge, stop_before, path_within, path, length_to, edges_at, IsShortest}
use Rattle.plan_num.proofs.Found.{any_is}
use Rattle.walks.proofs.LastWalks.{splits, across_back, starts_within, passes}
use Rattle.walks.proofs.PathEdges.{IsStep, some_length, last_is_step, comes_from}
use Rattle.walks.proofs.PathSteps.{no_edge, none_there, last_step}

-- a walk with an edge has a last one
record HasLast (walk : List Edge) : Type 0 where
  front : List Edge
  last : Edge
  is : walk ≡ front ++ last ∷ []

has_last_edge : (first : Edge) (rest : List Edge) → HasLast (first ∷ rest)
has_last_edge first [] = record { front = []; last = first; is = refl }
has_last_edge first (second ∷ rest) =
    let e = has_last_edge second rest in
    record { front = first ∷ e.front; last = e.last; is = ap (λ more. first ∷ more) e.is }

module _ (edges : List Edge) (lengths : ℕ → Option ℕ) (n from : ℕ) (sound : All (IsEdge n) edges)
    (least : (to : ℕ) → to < n → IsLeastSum edges edge_length from to (lengths to)) where
  -- ---- an edge ends a least walk

  by_walk : (at far : ℕ) (walk : List Edge) → lengths at ≡ Some far
      → ((other : List Edge) → IsWalk edges from at other → far ≤ walk_sum edge_length other)
      → at ≢ from → walk_sum edge_length walk ≡ far → IsWalk edges from at walk
      → list_any (ends_least lengths at) edges ≡ true
  by_walk at far [] reached shortest apart sums walk =
      absurd (apart (sym (walks.staying_end edges from at walk)))
  by_walk at far (first ∷ rest) reached shortest apart sums walk =
      let h = has_last_edge first rest in
      let e = splits edges from at h.front h.last (subst (IsWalk edges from at) h.is walk) in
      let test = passes edges lengths n from sound least at far h.front h.last reached shortest
      (sym (ap (walk_sum edge_length) h.is) ∙ sums) e in grind (arith, list_any_at)

  -- a stop that is reached from another has a last edge
  has_last : (at far : ℕ) → at < n → at ≢ from → lengths at ≡ Some far
      → is_some (last_edge edges lengths at) ≡ true
  has_last at far within apart reached = grind (arith, any_is, by_walk)

  -- ---- the whole path

  pub record Reaches (far at : ℕ) (found : List ℕ) : Type 0 where
    pub joins : IsWalk edges from at (edges_at edges found)
    pub sums : walk_sum edge_length (edges_at edges found) ≡ far

  -- a stop that is further away than a length
  record IsFurther (far stop : ℕ) : Type 0 where
    within : stop < n
    own : ℕ
    reached : lengths stop ≡ Some own
    further : far < own

  not_seen : (at far : ℕ) (seen : List ℕ) → lengths at ≡ Some far
      → ((q : ℕ) → list_any (nat_eq q) seen ≡ true → IsFurther far q)
      → list_any (nat_eq at) seen ≡ false
  not_seen at far seen reached further = grind arith

  among : (q at : ℕ) (seen : List ℕ) → list_any (nat_eq q) (seen ++ at ∷ []) ≡ true
      → (list_any (nat_eq q) seen ≡ true) ⊎ (q ≡ at)
  among q at seen e = grind (arith, nat_eq, list_any-append, eqb-true)

  stays : (at far : ℕ) → at < n → at ≡ from → lengths at ≡ Some far → Reaches far at []
  stays at far within same reached =
      let told = subst (IsLeastSum edges edge_length from at) reached (least at within) in
      let here : IsWalk edges from at [] =
      subst (λ stop. IsWalk edges from stop []) (sym same) (walks.no_edge edges from) in
      let most = told.1 [] here in grind arith

  goes_on : (at index far near before : ℕ) (front : List ℕ) → (here : index < length edges)
      → (step : IsStep lengths at (get_or edges index no_edge)) → step.before ≡ before
      → lengths at ≡ Some far → lengths before ≡ Some near → Reaches near before front
      → Reaches far at (front ++ index ∷ [])
  goes_on at index far near before front here step is reached came so_far =
      let edge = get_or edges index no_edge in
      let own = All-get_or (IsEdge n) edges index no_edge here sound in
      let there : Contains edges edge =
      (index, here, get_or_default edges index edge no_edge here) in
      let shown : edges_at edges (front ++ index ∷ []) ≡ edges_at edges front ++ edge
      ∷ [] = filter_map-append (slice_get edges) front (index ∷ [])
      ∙ ap (λ (found : Option Edge). edges_at edges front ++ cons_option found [])
      (slice_get-get_or edges index no_edge here) in
      let far_is : step.far ≡ far = same_Some _ _ (sym step.reached ∙ reached) in
      let near_is : step.near ≡ near = same_Some _ _ (sym step.came ∙ ap lengths is ∙ came) in
      let added = step.added in
      let sums = so_far.sums in
      let pushed = walks.walk_sum-push edge_length (edges_at edges front) edge in
      record {
        joins = subst (IsWalk edges from at) (sym shown)
            (walks.edge_last edges from before at (edges_at edges front) edge so_far.joins there
            (across_back edge at before own.apart (step.goes ∙ ap Some is)));
        sums = ap (walk_sum edge_length) shown ∙ omega arith;
      }

  -- with as many steps left as there are stops not seen
  whole : (more at far : ℕ) (seen : List ℕ) → at < n → lengths at ≡ Some far
      → IsDistinct nat_eq seen → ((q : ℕ) → list_any (nat_eq q) seen ≡ true → IsFurther far q)
      → n ≤ length seen + more → Reaches far at (path_within edges lengths more from at)
  whole zero at far seen within reached apart further room =
      let new = not_seen at far seen reached further in
      let all = length-le_from_distinct_below (seen ++ at ∷ []) n
      (IsDistinct-push nat_eq_equiv seen at apart new)
      (λ q h. elim (among q at seen h) [
        | inl old ↦ (further q old).within
        | inr same ↦ grind arith
      ]) in grind (arith, length_push)
  whole (suc more) at far seen within reached apart further room =
      elim (cases_eq at from) [
        | inl same ↦ grind (arith, none_there, stays)
        | inr off ↦
            elim (last_edge edges lengths at) as (λ last. last_edge edges lengths at ≡ last
            → Reaches far at (path_within edges lengths (suc more) from at)) [
              | None ↦ λ none. grind (arith, is_some, has_last)
              | Some index ↦ λ is.
                  let p = last_is_step edges lengths n from sound at index is in
                  let edge = get_or edges index no_edge in
                  let own = All-get_or (IsEdge n) edges index no_edge p.0 sound in
                  let long = some_length n edge own in
                  let added = p.1.added in
                  let far_is : p.1.far ≡ far = same_Some _ _ (sym p.1.reached ∙ reached) in
                  let nearer : p.1.near < far = omega arith in
                  let before = stop_before edges index at in
                  let comes : before ≡ p.1.before =
                  comes_from edges lengths n from sound at index p.0 p.1 in
                  let came : lengths before ≡ Some p.1.near = ap lengths comes ∙ p.1.came in
                  let behind : before < n = starts_within n edge before at own
                  (across_back edge at before own.apart (p.1.goes ∙ ap Some (sym comes))) in
                  let new = not_seen at far seen reached further in
                  subst (Reaches far at) (sym (last_step edges lengths from more at index off is))
                  (goes_on at index far p.1.near before
                  (path_within edges lengths more from before) p.0 p.1 (sym comes) reached came
                  (whole more before p.1.near (seen ++ at ∷ []) behind came
                  (IsDistinct-push nat_eq_equiv seen at apart new)
                  (λ q h. elim (among q at seen h) [
                    | inl old ↦
                        let f = further q old in
                        let beyond = f.further in
                        record {
                          within = f.within;
                          own = f.own;
                          reached = f.reached;
                          further = omega arith;
                        }
                    | inr same ↦ record {
                      within = subst (λ stop. stop < n) (sym same) within;
                      own = far;
                      reached = ap lengths same ∙ reached;
                      further = nearer;
                    }
                  ])
                  (omega (arith, length_push seen at))))
            ] refl
      ]

  none_seen : IsDistinct nat_eq []
  unfolding IsDistinct
  none_seen = tt

  pub reaches : (at far : ℕ) → at < n → lengths at ≡ Some far
      → Reaches far at (path_within edges lengths n from at)
  reaches at far within reached =
      whole n at far [] within reached none_seen (λ q h. absurd (cc)) (omega arith)

-- a path of a network to a stop that is reached is a walk there, and no walk is shorter
pub path_shortest : (network : NetworkParts) (from to : ℕ) → IsNetwork network
    → AreLeastSums network edge_length from (least_sums network edge_length from)
    → to < length network.stops → is_some (length_to (least_sums network edge_length from) to)
    ≡ true → IsShortest network from to (path network from to)
path_shortest network from to sound least within there =
    let lengths = length_to (least_sums network edge_length from) in
    elim (lengths to) as (λ told. lengths to ≡ told → is_some told ≡ true
    → IsShortest network from to (path network from to)) [
      | None ↦ λ none h. cc
      | Some far ↦ λ reached h.
          let found = reaches network.edges lengths
          (length network.stops) from sound.edges least to far within reached in grind arith
    ] refl there

-- a length is there where a sum is
pub reached_there : (sums : List (Option ℤ)) (to : ℕ) → is_some (get_or sums to None) ≡ true
    → is_some (length_to sums to) ≡ true
reached_there sums to there = grind (arith, get_or, is_some, option_map, unsigned_abs)
