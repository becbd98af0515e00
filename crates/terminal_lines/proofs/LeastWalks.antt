-- The least sum of the definition is the least over all walks: a walk that comes to a stop twice
-- can be cut short.
use Rattle.plan_num.proofs.Common.{◌≡◌, ℕ, suc, ◌<◌, ◌≤◌, true, false, nat_eq, inl, inr, List, []}
use Rattle.plan_num.proofs.Common.{◌∷◌, length, map, refl, ap, subst, sym, arith, Option, Some}
use Rattle.plan_num.proofs.Common.{None, option_map, unsigned_abs, unwrap_or, All, Contains}
use Rattle.plan_num.proofs.Common.{AllByRecursion, list_any, eqb-true, cases_Bool, All-contains}
use Rattle.plan_num.proofs.Common.{get_or-map-range_with_len, length-le_from_distinct_below}
use Rattle.std.specs.List.{IsDistinct}
use Rattle.walks.specs.declared.edge.Edge.{Edge}
use Rattle.walks.proofs.Common.{IsEdge, IsNetwork, NetworkParts, AreLeastSums, IsLeastSum, IsWalk}
use Rattle.walks.proofs.Common.{across, least_of, least_sums, walk_sum, walks_within, starts_within}
use Rattle.walks.proofs.Common.{IsUpTo, begins, edge_first, least_of_all, least_of_there}
use Rattle.walks.proofs.Common.{walk_sum-cons, within_all, within_there}
use Rattle.walks.specs.Walks.{least_sum}
use Rattle.plan_num.proofs.Members.{Contains-cons, Contains-head, Contains-map}
use Rattle.plan_num.proofs.Members.{Contains-rec}
use Rattle.plan_num.proofs.Lists.{back_again}

-- ---- the stops from which a walk goes on

starts : ℕ → List Edge → List ℕ
starts stop [] = []
starts stop (edge ∷ walk) = stop ∷ starts (unwrap_or (across edge stop) 0) walk

starts_count : (stop : ℕ) (walk : List Edge) → length (starts stop walk) ≡ length walk
unfolding starts
starts_count stop [] = refl
starts_count stop (edge ∷ walk) = ap suc (starts_count (unwrap_or (across edge stop) 0) walk)

starts_on : (edge : Edge) (stop next : ℕ) (walk : List Edge) → across edge stop ≡ Some next
    → starts stop (edge ∷ walk) ≡ stop ∷ starts next walk
unfolding starts
starts_on edge stop next walk over = ap (λ end. stop ∷ starts (unwrap_or end 0) walk) over

pub none_alike : (one : ℕ) (xs : List ℕ) → list_any (nat_eq one) xs ≡ false
    → AllByRecursion (λ x. nat_eq one x ≡ false) xs
none_alike one [] none = tt
none_alike one (x ∷ xs) none = elim (cases_Bool (nat_eq one x)) [
  | inl is ↦ absurd (let e = rw is at none in cc)
  | inr is ↦ (is, none_alike one xs (rw is at none))
]

module _ (edges : List Edge) (weight : Edge → ℕ) (to : ℕ) where
  -- a walk that goes on from each stop once, with a sum that is not above another one
  record IsPlain (from most : ℕ) : Type 0 where
    walk : List Edge
    is : IsWalk edges from to walk
    apart : IsDistinct nat_eq (starts from walk)
    less : walk_sum weight walk ≤ most

  -- the part of a walk from a stop on
  cut : (from stop most : ℕ) (walk : List Edge) → IsWalk edges stop to walk
      → IsDistinct nat_eq (starts stop walk) → walk_sum weight walk ≤ most
      → list_any (nat_eq from) (starts stop walk) ≡ true → IsPlain from most
  unfolding starts IsDistinct
  cut from stop most [] is apart less there = absurd (cc)
  cut from stop most (edge ∷ walk) is apart less there =
      let start = begins edges stop to edge walk is in
      elim (cases_Bool (nat_eq from stop)) [
        | inl same ↦ subst (λ first. IsPlain first most) (sym (eqb-true from stop same))
            (record { walk = edge ∷ walk; is = is; apart = apart; less = less })
        | inr other ↦
            let on = ap (λ end. starts (unwrap_or end 0) walk) start.over in
            cut from start.next most walk start.on (subst (IsDistinct nat_eq) on apart.1)
            (omega (arith, less, walk_sum-cons weight edge walk))
            (subst (λ stops. list_any (nat_eq from) stops ≡ true) on (rw other at there))
      ]

  -- from a stop a walk goes on once
  plain_on : (from next : ℕ) (edge : Edge) (rest : List Edge) → Contains edges edge
      → across edge from ≡ Some next → IsPlain next (walk_sum weight rest)
      → IsPlain from (walk_sum weight (edge ∷ rest))
  unfolding IsDistinct
  plain_on from next edge rest there over plain =
      let sums = walk_sum-cons weight edge rest in
      elim (cases_Bool (list_any (nat_eq from) (starts next plain.walk))) [
        | inl again ↦ cut from next (walk_sum weight (edge ∷ rest)) plain.walk plain.is plain.apart
            (omega (arith, plain.less, sums)) again
        | inr new ↦ record {
          walk = edge ∷ plain.walk;
          is = edge_first edges from next to edge plain.walk there over plain.is;
          apart = subst (IsDistinct nat_eq) (sym (starts_on edge from next plain.walk over))
              (none_alike from (starts next plain.walk) new, plain.apart);
          less = omega (arith, plain.less, sums, walk_sum-cons weight edge plain.walk);
        }
      ]

  plain : (from : ℕ) (walk : List Edge) → IsWalk edges from to walk
      → IsPlain from (walk_sum weight walk)
  unfolding IsDistinct starts
  plain from [] is = record { walk = []; is = is; apart = tt; less = omega arith }
  plain from (edge ∷ walk) is =
      let start = begins edges from to edge walk is in
      plain_on from start.next edge walk start.there start.over (plain start.next walk start.on)

  -- each stop from which a walk goes on is one of the network
  module _ (n : ℕ) (sound : All (IsEdge n) edges) where
    within : (from : ℕ) (walk : List Edge) → IsWalk edges from to walk → (stop : ℕ)
        → list_any (nat_eq stop) (starts from walk) ≡ true → stop < n
    unfolding starts
    within from [] is stop there = absurd (cc)
    within from (edge ∷ walk) is stop there =
        let start = begins edges from to edge walk is in
        elim (cases_Bool (nat_eq stop from)) [
          | inl same ↦ subst (λ first. first < n) (sym (eqb-true stop from same))
              (starts_within n edge from start.next
              (All-contains (IsEdge n) edges edge sound start.there) start.over)
          | inr other ↦ within start.next walk start.on stop
              (subst (λ stops. list_any (nat_eq stop) stops ≡ true)
              (ap (λ end. starts (unwrap_or end 0) walk) start.over) (rw other at there))
        ]

    short : (from most : ℕ) (some : IsPlain from most) → length some.walk ≤ n
    short from most some =
        let few = length-le_from_distinct_below (starts from some.walk) n some.apart
        (λ stop there. within from some.walk some.is stop there) in grind (arith, starts_count)

-- what is mapped is there
record ComesFrom {X Y : Type 0} (f : X → Y) (xs : List X) (y : Y) : Type 0 where
  own : X
  there : Contains xs own
  is : f own ≡ y

mapped_from : {X Y : Type 0} (f : X → Y) (xs : List X) (y : Y) → Contains (map f xs) y
    → ComesFrom f xs y
mapped_from f [] y there = absurd (omega (arith, there.1))
mapped_from f (x ∷ xs) y there =
    Contains-rec (ComesFrom f (x ∷ xs)) (f x) y (map f xs) there
    (record { own = x; there = Contains-head x xs; is = refl })
    (λ z h. let rest = mapped_from f xs z h in grind (arith, Contains-cons))

-- the least sum over walks of few edges is the least over all walks
pub least_of_all_walks : (network : NetworkParts) (weight : Edge → ℕ) (from to : ℕ)
    → IsNetwork network → IsLeastSum network.edges weight from to (least_sum network weight from to)
unfolding least_sum
least_of_all_walks network weight from to sound = by (least_of sums) refl
  where
    edges : List Edge
    edges = network.edges

    walks : List (List Edge)
    walks = walks_within network.edges (length network.stops) from to

    sums : List ℕ
    sums = map (walk_sum weight) (walks_within network.edges (length network.stops) from to)

    below : (walk : List Edge) → IsWalk network.edges from to walk
        → (sum : ℕ) × (sum ≤ walk_sum weight walk) × IsUpTo sum (least_of sums)
    below walk is =
        let some = plain network.edges weight to from walk is in
        let few = short network.edges weight to (length network.stops) sound.edges from
        (walk_sum weight walk) some in
        let there = within_there network.edges (length network.stops) from to some.walk few some.is
        in (
          walk_sum weight some.walk,
          some.less,
          All-contains (λ number. IsUpTo number (least_of sums)) sums (walk_sum weight some.walk)
              (least_of_all sums)
              (Contains-map (walk_sum weight) walks some.walk there),
        )

    by : (least : Option ℕ) → least_of sums ≡ least → IsLeastSum network.edges weight from to least
    by None is = λ walk on. subst (IsUpTo (below walk on).0) is (below walk on).2
    by (Some least) is =
        let own = mapped_from (walk_sum weight) walks least (least_of_there sums least is) in (
          (
            own.own,
            All-contains (IsWalk network.edges from to) walks own.own
                (within_all network.edges (length network.stops) from to) own.there,
            own.is,
          ),
          λ walk on.
              let own = below walk on in
              let least_is : least ≤ own.0 = subst (IsUpTo own.0) is own.2 in
              omega (arith, least_is, own.1),
        )

-- the least sums from a stop are the least over all walks
pub least_of_stop : (network : NetworkParts) (weight : Edge → ℕ) (from : ℕ) → IsNetwork network
    → AreLeastSums network weight from (least_sums network weight from)
least_of_stop network weight from sound = grind (
  arith,
  within,
  option_map,
  unsigned_abs,
  get_or-map-range_with_len,
  back_again,
  least_of_all_walks,
)
