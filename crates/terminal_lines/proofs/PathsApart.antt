-- No two paths between terminals lie in one another, so each path lies in a line.
use Rattle.plan_num.proofs.Common.{◌≡◌, ◌≢◌, ℕ, ℤ, zero, suc, ◌<◌, Bool, true, false, nat_eq, List}
use Rattle.plan_num.proofs.Common.{[], ◌∷◌, ◌++◌, length, map, filter_map, get_or, All, Option}
use Rattle.plan_num.proofs.Common.{Some, None, inl, inr, refl, subst, sym, arith, AllByRecursion}
use Rattle.plan_num.proofs.Common.{cons_option, list_all, list_any, int_cmp, cases_lt, eq-eqb}
use Rattle.plan_num.proofs.Common.{eqb-true, or_right, cases_Bool, nat_eq_equiv, ints, All-head}
use Rattle.plan_num.proofs.Common.{All-tail, length-le_from_is_member}
use Rattle.std.specs.List.{IsDistinct}
use Rattle.std.specs.List.Sorted.{IsStrictlySortedBy}
use Rattle.std.specs.declared.cmp.Ordering.TheVariants.{Less}
use Rattle.walks.proofs.Common.{IsNetwork, NetworkParts, index_in, rising, edges_at, way, IsWalk}
use Rattle.walks.proofs.Common.{rising_rises}
use Rattle.terminal_lines.specs.TerminalPaths.{are_stops, lies_in, pairs_of, paths_of}
use Rattle.terminal_lines.proofs.EndsOfWalks.{members_in, paths_ends}
use Rattle.terminal_lines.proofs.PairsOfIds.{AreInOrder, less_is, not_own, pairs_after, pairs_are}
use Rattle.terminal_lines.proofs.TerminalWays.{IsKnown, in_order, is_index, way_of}
use Rattle.terminal_lines.proofs.TerminalWays.{way_shortest}
use Rattle.terminal_lines.proofs.LeastWalks.{none_alike}
use Rattle.plan_num.proofs.Lists.{append_all}

-- ---- the pairs differ

less_differs : (x y : ℤ) → int_cmp x y ≡ Less → x ≢ y
less_differs x y less same = grind arith

-- pairs, no two of which are one
ArePairsApart : List (ℤ × ℤ) → Type 0
ArePairsApart [] = Unit {0}
ArePairsApart (pair ∷ pairs) = AllByRecursion (λ other. pair ≢ other) pairs × ArePairsApart pairs

other_first : (id first : ℤ) (to : ℤ) (ids : List ℤ) → int_cmp id first ≡ Less
    → AllByRecursion {X = ℤ × ℤ} (λ other. (id, to) ≢ other) (map (λ to. (first, to)) ids)
other_first id first to [] less = tt
other_first id first to (next ∷ ids) less =
    grind (arith, less_differs, other_first id first to ids less)

none_after : (id to : ℤ) (ids : List ℤ) → AllByRecursion (λ other. int_cmp id other ≡ Less) ids
    → AllByRecursion {X = ℤ × ℤ} (λ other. (id, to) ≢ other) (pairs_after ids)
unfolding pairs_after
none_after id to [] above = tt
none_after id to (first ∷ ids) above =
    append_all {X = ℤ × ℤ} (λ other. (id, to) ≢ other) (map (λ to. (first, to)) ids)
    (pairs_after ids)
    (other_first id first to ids above.0) (none_after id to ids above.1)

other_second : (id to : ℤ) (ids : List ℤ) → AllByRecursion (λ other. int_cmp to other ≡ Less) ids
    → AllByRecursion {X = ℤ × ℤ} (λ other. (id, to) ≢ other) (map (λ to. (id, to)) ids)
other_second id to [] above = tt
other_second id to (next ∷ ids) above = grind (arith, less_differs, other_second id to ids above.1)

-- the pairs of one id are apart from one another and from those behind them
own_apart : (id : ℤ) (ids behind : List ℤ) → IsStrictlySortedBy int_cmp ids
    → AllByRecursion (λ other. int_cmp id other ≡ Less) behind → ArePairsApart (pairs_after behind)
    → ArePairsApart (map (λ to. (id, to)) ids ++ pairs_after behind)
unfolding ArePairsApart IsStrictlySortedBy
own_apart id [] behind rise above rest = rest
own_apart id (to ∷ ids) behind rise above rest = (
  append_all {X = ℤ × ℤ} (λ other. (id, to) ≢ other) (map (λ to. (id, to)) ids) (pairs_after behind)
      (other_second id to ids rise.0) (none_after id to behind above),
  own_apart id ids behind rise.1 above rest,
)

pairs_apart : (ids : List ℤ) → IsStrictlySortedBy int_cmp ids → ArePairsApart (pairs_after ids)
unfolding ArePairsApart IsStrictlySortedBy pairs_after
pairs_apart [] rise = tt
pairs_apart (id ∷ ids) rise = own_apart id ids ids rise.1 rise.0 (pairs_apart ids rise.1)

-- ---- no two paths lie in one another

-- two paths do not both lie in the other
abbrev AreApart : List ℕ → List ℕ → Type 0
AreApart path other = lies_in path other ≡ true → lies_in other path ≡ true → ⊥

pub AllApart : List (List ℕ) → Type 0
AllApart [] = Unit {0}
AllApart (path ∷ paths) = AllByRecursion (AreApart path) paths × AllApart paths

module _ (network : NetworkParts) (sound : IsNetwork network) (terminals : List ℤ) where
  abbrev Known : ℤ × ℤ → Type 0
  Known pair = AreInOrder (IsKnown network sound terminals) pair

  abbrev way_at : ℤ × ℤ → Option (List ℕ)
  way_at pair = way network (index_in network.stops pair.0) (index_in network.stops pair.1)

  same_index : (one other : ℤ) → IsKnown network sound terminals one
      → IsKnown network sound terminals other
      → index_in network.stops one ≡ index_in network.stops other → one ≡ other
  same_index one other first second same = grind (arith, is_index, get_or)

  -- the path of a pair is a walk between its stops
  ends_of : (pair : ℤ × ℤ) → Known pair → (path : List ℕ) → way_at pair ≡ Some path
      → IsWalk network.edges (index_in network.stops pair.0) (index_in network.stops pair.1)
      (edges_at network.edges path)
  ends_of pair are path is =
      (way_shortest network sound (index_in network.stops pair.0) (index_in network.stops pair.1)
      path
      (is_index network.stops pair.1 are.to.known).within is).joins

  ways_apart : (pair other : ℤ × ℤ) (path more : List ℕ) → Known pair → Known other → pair ≢ other
      → way_at pair ≡ Some path → way_at other ≡ Some more → AreApart path more
  ways_apart pair other path more one two apart is own into back =
      let first = way_of network sound terminals pair one path is in
      let second = way_of network sound terminals other two more own in
      elim (paths_ends network.edges (length network.stops) (index_in network.stops pair.0)
      (index_in network.stops pair.1) (index_in network.stops other.0)
      (index_in network.stops other.1) path more sound.edges first.simple second.simple
      (ends_of pair one path is) (ends_of other two more own)
      (λ same. not_own pair.0 pair.1 one.in_order (same_index pair.0 pair.1 one.from one.to same))
      (members_in path more into) (members_in more path back)) [
        | inl p ↦
            let from = same_index pair.0 other.0 one.from two.from p.0 in
            let to = same_index pair.1 other.1 one.to two.to p.1 in
            apart (λ i. (from i, to i))
        | inr p ↦
            let from = same_index pair.0 other.1 one.from two.to p.0 in
            let to = same_index pair.1 other.0 one.to two.from p.1 in
            let up = less_is pair.0 pair.1 one.in_order in
            let down = less_is other.0 other.1 two.in_order in
            absurd (omega (arith, ints, from, to, up, down))
      ]

  one_apart : (pair : ℤ × ℤ) (path : List ℕ) (pairs : List (ℤ × ℤ)) → Known pair
      → way_at pair ≡ Some path → All Known pairs → AllByRecursion (λ other. pair ≢ other) pairs
      → AllByRecursion (AreApart path) (filter_map way_at pairs)
  one_apart pair path [] known is all apart = tt
  one_apart pair path (other ∷ pairs) known is all apart = grind (
    arith,
    All-tail,
    filter_map,
    ways_apart,
    All-head,
    one_apart pair path pairs known is (All-tail Known other pairs all)
        apart.1,
  )

  all_apart : (pairs : List (ℤ × ℤ)) → All Known pairs → ArePairsApart pairs
      → AllApart (filter_map way_at pairs)
  unfolding ArePairsApart AllApart
  all_apart [] all apart = tt
  all_apart (pair ∷ pairs) all apart =
      by (way_at pair) refl (all_apart pairs (All-tail Known pair pairs all) apart.1)
    where
      by : (found : Option (List ℕ)) → way_at pair ≡ found → AllApart (filter_map way_at pairs)
          → AllApart (cons_option found (filter_map way_at pairs))
      by None is rest = rest
      by (Some path) is rest = (
        one_apart pair path pairs (All-head Known pair pairs all) is (All-tail Known pair pairs all)
            apart.0,
        rest,
      )

  module _ (known : are_stops network.stops terminals ≡ true) where
    pub paths_of_apart : AllApart (paths_of network terminals)
    paths_of_apart =
        all_apart (pairs_of terminals)
        (in_order network sound terminals known)
        (subst ArePairsApart (sym (pairs_are terminals))
        (pairs_apart (rising terminals) (rising_rises terminals)))

-- ---- by their places

apart_from_first : (path : List ℕ) (paths : List (List ℕ)) → AllByRecursion (AreApart path) paths
    → (place : ℕ) → place < length paths → AreApart path (get_or paths place [])
apart_from_first path [] apart place h = absurd (omega (arith, h))
apart_from_first path (other ∷ paths) apart zero h = apart.0
apart_from_first path (other ∷ paths) apart (suc place) h =
    apart_from_first path paths apart.1 place (omega (arith, h))

apart_by_places : (paths : List (List ℕ)) → AllApart paths → (place other : ℕ) → place < other
    → other < length paths → AreApart (get_or paths place []) (get_or paths other [])
unfolding AllApart
apart_by_places [] apart place other lt h = absurd (omega (arith, h))
apart_by_places (path ∷ paths) apart place zero lt h = absurd (omega (arith, lt))
apart_by_places (path ∷ paths) apart zero (suc other) lt h =
    apart_from_first path paths apart.0 other (omega (arith, h))
apart_by_places (path ∷ paths) apart (suc place) (suc other) lt h =
    apart_by_places paths apart.1 place other (omega (arith, lt)) (omega (arith, h))

pub same_place : (paths : List (List ℕ)) → AllApart paths → (place other : ℕ) → place < length paths
    → other < length paths → lies_in (get_or paths place []) (get_or paths other []) ≡ true
    → lies_in (get_or paths other []) (get_or paths place []) ≡ true → place ≡ other
same_place paths apart place other h k into back = grind (arith, cases_lt, apart_by_places)

-- ---- a path that lies in another one is shorter

-- a number that fails a test of all
record Fails (p : ℕ → Bool) (xs : List ℕ) : Type 0 where
  one : ℕ
  there : list_any (nat_eq one) xs ≡ true
  fails : p one ≡ false

fails_at : (p : ℕ → Bool) (xs : List ℕ) → list_all p xs ≡ false → Fails p xs
fails_at p [] none = cc
fails_at p (x ∷ xs) none = elim (cases_Bool (p x)) [
  | inl is ↦ grind (arith, or_right, nat_eq, fails_at p xs (rw is at none))
  | inr is ↦ grind (arith, nat_eq, eq-eqb)
]

pub longer : (path other : List ℕ) → IsDistinct nat_eq path → lies_in path other ≡ true
    → lies_in other path ≡ false → length path < length other
unfolding IsDistinct
longer path other apart into back =
    let more = fails_at (λ edge. list_any (nat_eq edge) path) other back in
    let count = length-le_from_is_member nat_eq_equiv (more.one ∷ path) other
    (none_alike more.one path more.fails, apart)
    (λ x there. member x more.one more.there there) in
    omega (arith, count)
  where
    member : (x one : ℕ) → list_any (nat_eq one) other ≡ true
        → list_any (nat_eq x) (one ∷ path) ≡ true → list_any (nat_eq x) other ≡ true
    member x one own there = elim (cases_Bool (nat_eq x one)) [
      | inl same ↦ subst (λ at. list_any (nat_eq at) other ≡ true) (sym (eqb-true x one same)) own
      | inr differs ↦ members_in path other into x (rw differs at there)
    ]
