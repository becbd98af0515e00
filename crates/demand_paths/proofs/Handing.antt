-- Customers are handed back along the last edges of paths.
use Rattle.plan_num.proofs.Common.{◌≡◌, ◌≢◌, ℕ, zero, suc, ◌+◌, ◌<◌, ◌≤◌, Bool, true, false, ◌||◌}
use Rattle.plan_num.proofs.Common.{cond, nat_eq, List, [], ◌∷◌, ◌++◌, length, get_or, set}
use Rattle.plan_num.proofs.Common.{slice_get, refl, ap, subst, sym, ◌∙◌, arith, Option, Some, None}
use Rattle.plan_num.proofs.Common.{is_some, unwrap_or, inl, inr, add-zero, get_or-set_other}
use Rattle.plan_num.proofs.Common.{get_or-set_same, All, list_any, cons_option, cases_eq, eq-eqb}
use Rattle.plan_num.proofs.Common.{eqb-true, ne_eqb, false≢true, length-set, All-get_or}
use Rattle.plan_num.proofs.Common.{filter_map-append, list_any-append, slice_get-get_or, same_Some}
use Rattle.walks.specs.declared.edge.Edge.{Edge}
use Rattle.walks.proofs.Common.{NetworkParts, IsEdge, IsNetwork, edge_length, least_sums, IsWalk}
use Rattle.walks.proofs.Common.{AreLeastSums, last_edge, stop_before, path, length_to, edges_at}
use Rattle.walks.proofs.Common.{PathParts, ArePaths, splits, across_back, some_length, last_is_step}
use Rattle.walks.proofs.Common.{last_is_new, comes_from, no_edge, none_there, none_before}
use Rattle.walks.proofs.Common.{last_step, last_known, last_there, before_there, path_shortest}
use Rattle.walks.specs.Paths.{path_within}
use Rattle.walks.proofs.Walks as walks
use Rattle.demand_paths.specs.Wanted.{distance, goes_over, sum_where, everyone, NobodyLeft}
use Rattle.demand_paths.proofs.WantedSums.{moved, sum_where-one, sum_where-set}

-- ---- a path is that to the stop before its end, and its last edge

module _ (edges : List Edge) (lengths : ℕ → Option ℕ) (n from : ℕ)
    (sound : All (IsEdge n) edges) where
  -- without its last edge a path still is a walk
  front_joins : (at index : ℕ) (front : List ℕ) → last_edge edges lengths at ≡ Some index
      → IsWalk edges from at (edges_at edges (front ++ index ∷ []))
      → IsWalk edges from (stop_before edges index at) (edges_at edges front)
  front_joins at index front is walk =
      let p = last_is_step edges lengths n from sound at index is in
      let edge = get_or edges index no_edge in
      let own = All-get_or (IsEdge n) edges index no_edge p.0 sound in
      let shown : edges_at edges (front ++ index ∷ []) ≡ edges_at edges front ++ edge
      ∷ [] = filter_map-append (slice_get edges) front (index ∷ [])
      ∙ ap (λ (found : Option Edge). edges_at edges front ++ cons_option found [])
      (slice_get-get_or edges index no_edge p.0) in
      let s = splits edges from at (edges_at edges front) edge
      (subst (IsWalk edges from at) shown walk) in
      let same : s.stop ≡ stop_before edges index at =
      same_Some _ _ (sym (across_back edge s.stop at own.apart s.over) ∙ p.1.goes)
      ∙ sym (comes_from edges lengths n from sound at index p.0 p.1) in
      subst (λ stop. IsWalk edges from stop (edges_at edges front)) same s.before

  -- a path that is a walk stays as it is, however many steps it may have
  stays : (more at : ℕ)
      → IsWalk edges from at (edges_at edges (path_within edges lengths more from at))
      → path_within edges lengths (suc more) from at ≡ path_within edges lengths more from at
  unfolding path_within
  stays zero at walk =
      none_there edges lengths from 1 at (sym (walks.staying_end edges from at walk))
  stays (suc more) at walk =
      elim (cases_eq at from) [
        | inl same ↦ grind (arith, none_there)
        | inr apart ↦
            elim (last_edge edges lengths at) as (λ last. last_edge edges lengths at ≡ last
            → path_within edges lengths (suc (suc more)) from at
            ≡ path_within edges lengths (suc more) from at) [
              | None ↦ λ is. none_before edges lengths from (suc (suc more)) at is
                  ∙ sym (none_before edges lengths from (suc more) at is)
              | Some index ↦ λ is.
                  let before = stop_before edges index at in
                  let front = path_within edges lengths more from before in
                  let one = last_step edges lengths from more at index apart is in
                  last_step edges lengths from (suc more) at index apart is
                  ∙ ap (λ (some : List ℕ). some ++ index ∷ []) (stays more before
                  (front_joins at index front is
                  (subst (λ some. IsWalk edges from at (edges_at edges some)) one walk)))
                  ∙ sym one
            ] refl
      ]

module _ (network : NetworkParts) (from : ℕ) (sound : IsNetwork network) (paths : PathParts)
    (are : ArePaths network from paths) where
  abbrev lengths : ℕ → Option ℕ
  lengths = length_to (least_sums network edge_length from)

  least : AreLeastSums network edge_length from (least_sums network edge_length from)
  least = subst (AreLeastSums network edge_length from) (ap (λ (some : PathParts). some.lengths)
      are.is) are.least

  module _ (to index : ℕ) (within : to < length network.stops) (apart : to ≢ from)
      (told : get_or paths.last to None ≡ Some index) where
    is : last_edge network.edges lengths to ≡ Some index
    is = sym (last_known network from paths to are.is within) ∙ told

    abbrev before : ℕ
    before = stop_before network.edges index to

    longer : (n : ℕ) → length network.stops ≡ n → path network from to
        ≡ path network from before ++ index ∷ []
    longer zero e = absurd (omega arith)
    longer (suc more) e =
        let p = last_is_step network.edges lengths (length network.stops) from sound.edges to index
        is in
        let joins = (path_shortest network from to sound least within
        (ap is_some p.1.reached)).joins in
        let front = path_within network.edges lengths more from before in
        let one : path network from to ≡ front ++ index ∷ [] =
        ap (λ n. path_within network.edges lengths n from to) e
        ∙ last_step network.edges lengths from more to index apart is in
        let same : path network from before ≡ front =
        ap (λ n. path_within network.edges lengths n from before) e
        ∙ stays network.edges lengths (length network.stops) from sound.edges more before
        (front_joins network.edges lengths (length network.stops) from sound.edges to index front is
        (subst (λ some. IsWalk network.edges from to (edges_at network.edges some)) one joins)) in
        one ∙ ap (λ (some : List ℕ). some ++ index ∷ []) (sym same)

    pub one_edge_more : path network from to ≡ path network from before ++ index ∷ []
    one_edge_more = longer (length network.stops) refl

    pub there : (index < length network.edges) × (before < length network.stops)
    there = grind (arith, last_there, is, before_there)

    -- the stop before is nearer
    pub nearer : distance network from before < distance network from to
    nearer =
        let p = last_is_step network.edges lengths (length network.stops) from sound.edges to index
        is in
        let edge = get_or network.edges index no_edge in
        let long = some_length (length network.stops) edge
        (All-get_or (IsEdge (length network.stops)) network.edges index no_edge p.0 sound.edges) in
        let added = p.1.added in
        let far : distance network from to ≡ p.1.far = ap (λ o. unwrap_or o 0) p.1.reached in
        let near : distance network from before ≡ p.1.near =
        ap (λ stop. distance network from stop)
        (comes_from network.edges lengths (length network.stops) from sound.edges to index p.0 p.1)
        ∙ ap (λ o. unwrap_or o 0) p.1.came in
        omega arith

    -- who goes to the stop goes to the one before it, and over the last edge
    pub over_last : (other amount : ℕ) → cond (goes_over network other from to) amount 0
        ≡ cond (goes_over network other from before) amount 0 + cond (nat_eq other index) amount 0
    over_last other amount =
        ap (λ some. cond (list_any (nat_eq other) some) amount 0) one_edge_more
        ∙ ap (λ b. cond b amount 0)
        (list_any-append (nat_eq other) (path network from before) (index ∷ []))
        ∙ either (goes_over network other from before) (nat_eq other index) once
      where
        once : goes_over network other from before ≡ true → nat_eq other index ≡ true → ⊥
        once old same =
            let new = last_is_new network.edges lengths (length network.stops) from sound.edges
            (length network.stops) to index is in
            false≢true (sym new ∙ ap (λ edge. goes_over network edge from before)
            (sym (eqb-true other index same)) ∙ old)

        either : (a b : Bool) → (a ≡ true → b ≡ true → ⊥)
            → cond (a || (b || false)) amount 0 ≡ cond a amount 0 + cond b amount 0
        either true true never = absurd (never refl refl)
        either true false never = sym (add-zero amount)
        either false true never = omega arith
        either false false never = refl

    -- ---- one step: customers of a stop are handed to the one before it

    module _ (left loads : List ℕ) (stop : ℕ) (stop_is : stop ≡ before)
        (size : length left ≡ length network.stops)
        (count : length loads ≡ length network.edges) where
      abbrev customers : ℕ
      customers = get_or left to 0

      abbrev load : ℕ
      load = get_or loads index 0

      abbrev waiting : ℕ
      waiting = get_or (set left to 0) stop 0

      abbrev handed : List ℕ
      handed = set (set left to 0) stop (waiting + customers)

      pub stop_there : stop < length network.stops
      stop_there = subst (λ at. at < length network.stops) (sym stop_is) there.1

      stop_nearer : distance network from stop < distance network from to
      stop_nearer = subst (λ at. distance network from at < distance network from to)
          (sym stop_is) nearer

      sums_moved : (passes : ℕ → Bool) → sum_where passes 0 handed + cond (passes to) customers 0
          ≡ sum_where passes 0 left + cond (passes stop) customers 0
      sums_moved passes = moved passes left to stop (omega arith) (omega (arith, stop_there))

      pub still_all : sum_where everyone 0 handed ≡ sum_where everyone 0 left
      still_all = grind (arith, sums_moved)

      over_stop : (other : ℕ) → cond (goes_over network other from to) customers 0
          ≡ cond (goes_over network other from stop) customers 0 + cond (nat_eq other index)
          customers 0
      over_stop other = grind (arith, over_last, nat_eq)

      pub same_load : (other : ℕ) → get_or (set loads index (load + customers)) other 0
          + sum_where (goes_over network other from) 0 handed
          ≡ get_or loads other 0 + sum_where (goes_over network other from) 0 left
      same_load other =
          grind (
            arith,
            sums_moved,
            over_stop,
            cases_eq,
            nat_eq,
            eq-eqb,
            get_or,
            get_or-set_same,
            there,
            ne_eqb,
            get_or-set_other,
          )

      pub nobody_left : NobodyLeft network from handed to
      nobody_left = grind (arith, get_or-set_other, stop_nearer, get_or-set_same)

      pub others_stay : (other : ℕ) → NobodyLeft network from left other
          → distance network from to ≤ distance network from other
          → NobodyLeft network from handed other
      others_stay other so_far further = grind (
        arith,
        cases_eq,
        nobody_left,
        get_or-set_other,
        stop_nearer,
      )

      -- the sums fit
      pub load_fits : get_or loads index 0 + sum_where (goes_over network index from) 0 left
          < 18446744073709551616 → load + customers < 18446744073709551616
      load_fits room =
          let some = sum_where-one (goes_over network index from) to left (omega arith) in grind
          (arith, over_stop, nat_eq, eq-eqb)

      pub waiting_fits : sum_where everyone 0 left ≤ 100000000000000000
          → waiting + customers < 18446744073709551616
      waiting_fits few =
          let without = set left to 0 in
          let long : length without ≡ length left = length-set left to 0 in
          let taken : sum_where everyone 0 without + get_or left to 0
          ≡ sum_where everyone 0 left + 0 =
          sum_where-set everyone 0 to to left 0 (omega arith) (omega arith) in
          let some : get_or without stop 0 ≤ sum_where everyone 0 without =
          sum_where-one everyone stop without (omega (arith, stop_there)) in
          omega arith

  -- nobody is left where no edge leads on
  pub none_at_start : (left : List ℕ) (to : ℕ) → to ≡ from → NobodyLeft network from left to
  none_at_start left to same =
      inr (none_there network.edges lengths from (length network.stops) to same)

  pub none_unreached : (left : List ℕ) (to : ℕ) → to < length network.stops
      → get_or paths.last to None ≡ None → NobodyLeft network from left to
  none_unreached left to within told = grind (arith, none_before, last_known, is)
