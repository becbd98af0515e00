-- The paths between terminals are shortest lines, and there are not more than 190 of them.
use Rattle.plan_num.proofs.Common.{◌≡◌, ℕ, ℤ, pos, ◌+◌, ◌<◌, ◌≤◌, true, nat_eq, List, [], ◌∷◌}
use Rattle.plan_num.proofs.Common.{length, filter_map, get_or, All, Contains, Option, Some, None}
use Rattle.plan_num.proofs.Common.{option_map, is_some, unwrap_or, unsigned_abs, refl, ap, subst}
use Rattle.plan_num.proofs.Common.{sym, ◌∙◌, arith, cons_option, enumerate_from, list_all, list_any}
use Rattle.plan_num.proofs.Common.{int_eq, eqb-true, cases_Bool, Decides-int_eq, All-cons}
use Rattle.plan_num.proofs.Common.{All-contains_itself, All-head, All-nil, All-tail}
use Rattle.plan_num.proofs.Common.{get_or-map-range_with_len, length-enumerate_from, position-Some}
use Rattle.plan_num.proofs.Common.{AllPass-from_list_all, length-filter, count_by-le-length}
use Rattle.plan_num.proofs.Common.{length-le_from_distinct_below, same_Some, Any-from_list_any}
use Rattle.plan_num.proofs.Common.{length-map}
use Rattle.plan_num.proofs.Found.{any_is}
use Rattle.walks.proofs.Common.{IsNetwork, NetworkParts, index_in, rising, IsShortest, IsSimple}
use Rattle.walks.proofs.Common.{length_to, path, way, edge_length, least_sum, least_sums}
use Rattle.walks.proofs.Common.{path_simple, path_shortest, all_rising, rising_length, rising_rises}
use Rattle.walks.proofs.Common.{staying_end}
use Rattle.terminal_lines.specs.TerminalPaths.{IsShort, IsShortestLine, lines_among}
use Rattle.terminal_lines.specs.TerminalPaths.{are_stops, pairs_of, paths_of, uncontained}
use Rattle.terminal_lines.proofs.LeastWalks.{least_of_stop}
use Rattle.terminal_lines.proofs.PairsOfIds.{AreInOrder, all_in_order, few_pairs, less_is, not_own}
use Rattle.terminal_lines.proofs.PairsOfIds.{pairs_are}

-- ---- the index of a stop

-- the index of an id that is a stop
pub record IsIndex (stops : List ℤ) (id : ℤ) (index : ℕ) : Type 0 where
  pub within : index < length stops
  pub is : id ≡ get_or stops index (pos 0)

pub is_index : (stops : List ℤ) (id : ℤ) → list_any (int_eq id) stops ≡ true
    → IsIndex stops id (index_in stops id)
is_index stops id known = grind (
  arith,
  unwrap_or,
  any_is,
  is_some,
  position-Some,
  Decides-int_eq,
  get_or,
)

-- ---- one path

-- a path between two terminals
pub record IsTerminalPath (network : NetworkParts) (terminals : List ℤ) (path : List ℕ) : Type 0
  where
    pub line : IsShortestLine network terminals path
    pub simple : IsSimple network.edges path
    pub some : 0 < length path

module _ (network : NetworkParts) (sound : IsNetwork network) where
  -- a terminal that is a stop
  pub record IsKnown (terminals : List ℤ) (id : ℤ) : Type 0 where
    pub there : Contains terminals id
    pub known : list_any (int_eq id) network.stops ≡ true

  joined : (from to : ℕ) (found : List ℕ) → way network from to ≡ Some found
      → (is_some (least_sum network edge_length from to) ≡ true) × (found ≡ path network from to)
  joined from to found is = grind (arith, is_some, same_Some)

  some_length : (from to : ℕ) → to < length network.stops
      → is_some (least_sum network edge_length from to) ≡ true
      → is_some (length_to (least_sums network edge_length from) to) ≡ true
  some_length from to within there = grind (
    arith,
    is_some,
    option_map,
    unsigned_abs,
    get_or-map-range_with_len,
  )

  -- a way between two stops is shortest
  pub way_shortest : (from to : ℕ) (found : List ℕ) → to < length network.stops
      → way network from to ≡ Some found → IsShortest network from to found
  way_shortest from to found within is =
      let way_is = joined from to found is in
      subst (IsShortest network from to) (sym way_is.1)
      (path_shortest network from to sound (least_of_stop network edge_length from sound) within
      (some_length from to within way_is.0))

  module _ (terminals : List ℤ) where
    pub way_of : (pair : ℤ × ℤ) → AreInOrder (IsKnown terminals) pair → (found : List ℕ)
        → way network (index_in network.stops pair.0) (index_in network.stops pair.1) ≡ Some found
        → IsTerminalPath network terminals found
    way_of pair are found is =
        let from = is_index network.stops pair.0 are.from.known in
        let to = is_index network.stops pair.1 are.to.known in
        let shortest = way_shortest (index_in network.stops pair.0) (index_in network.stops pair.1)
        found to.within is in
        record {
          line = record {
            from = pair.0;
            to = pair.1;
            from_there = are.from.there;
            to_there = are.to.there;
            in_order = less_is pair.0 pair.1 are.in_order;
            shortest = shortest;
          };
          simple = subst (IsSimple network.edges)
              (sym (joined (index_in network.stops pair.0) (index_in network.stops pair.1) found
              is).1)
              (path_simple network (index_in network.stops pair.0) (index_in network.stops pair.1)
              sound);
          some = by found shortest;
        }
      where
        by : (found : List ℕ)
            → IsShortest network (index_in network.stops pair.0) (index_in network.stops pair.1)
            found
            → 0 < length found
        by (edge ∷ found) shortest = omega arith
        by [] shortest =
            let from = is_index network.stops pair.0 are.from.known in
            let to = is_index network.stops pair.1 are.to.known in
            let same = staying_end network.edges (index_in network.stops pair.0)
            (index_in network.stops pair.1) shortest.joins in
            absurd (not_own pair.0 pair.1 are.in_order
            (from.is ∙ ap (λ index. get_or network.stops index (pos 0)) same ∙ sym to.is))

    -- ---- all paths

    all_found : (pairs : List (ℤ × ℤ)) → All (AreInOrder (IsKnown terminals)) pairs
        → All (IsTerminalPath network terminals) (filter_map (λ pair.
        way network (index_in network.stops pair.0) (index_in network.stops pair.1)) pairs)
    all_found [] all = All-nil (IsTerminalPath network terminals)
    all_found (pair ∷ pairs) all =
        by (way network (index_in network.stops pair.0) (index_in network.stops pair.1)) refl
        (all_found pairs (All-tail (AreInOrder (IsKnown terminals)) pair pairs all))
      where
        by : (found : Option (List ℕ))
            → way network (index_in network.stops pair.0) (index_in network.stops pair.1) ≡ found
            → All (IsTerminalPath network terminals) (filter_map (λ pair.
            way network (index_in network.stops pair.0) (index_in network.stops pair.1)) pairs)
            → All (IsTerminalPath network terminals) (cons_option found (filter_map (λ pair.
            way network (index_in network.stops pair.0) (index_in network.stops pair.1)) pairs))
        by None is rest = rest
        by (Some found) is rest =
            All-cons (IsTerminalPath network terminals) found _
            (way_of pair (All-head (AreInOrder (IsKnown terminals)) pair pairs all) found is) rest

    module _ (known : are_stops network.stops terminals ≡ true) where
      all_known : All (IsKnown terminals) terminals
      all_known = grind (arith, AllPass-from_list_all, All-contains_itself)

      pub in_order : All (AreInOrder (IsKnown terminals)) (pairs_of terminals)
      in_order = subst (All (AreInOrder (IsKnown terminals))) (sym (pairs_are terminals))
          (all_in_order (IsKnown terminals) (rising terminals) (rising_rises terminals)
          (all_rising (IsKnown terminals) terminals all_known))

      pub paths_right : All (IsTerminalPath network terminals) (paths_of network terminals)
      paths_right = all_found (pairs_of terminals) in_order

-- ---- how many paths there are

length_found : {X Y : Type 0} (f : X → Option Y) (xs : List X) → length (filter_map f xs) ≤ length
    xs
length_found f [] = omega arith
length_found f (x ∷ xs) = grind (arith, filter_map, length_found f xs)

pub few_paths : (network : NetworkParts) (terminals : List ℤ) → length terminals ≤ 20
    → length (paths_of network terminals) ≤ 190
few_paths network terminals few = grind (arith, length_found, pairs_are, few_pairs, rising_length)

-- ---- the lines among them

module _ (P : List ℕ → Type 0) where
  all_numbered : (n : ℕ) (paths : List (List ℕ)) → All P paths
      → All (λ (at : ℕ × List ℕ). P at.1) (enumerate_from n paths)
  all_numbered n [] all = All-nil (λ (at : ℕ × List ℕ). P at.1)
  all_numbered n (path ∷ paths) all =
      All-cons (λ (at : ℕ × List ℕ). P at.1) (n, path) (enumerate_from (n + 1) paths)
      (All-head P path paths all) (all_numbered (n + 1) paths (All-tail P path paths all))

  some_among : (paths : List (List ℕ)) (some : List (ℕ × List ℕ))
      → All (λ (at : ℕ × List ℕ). P at.1) some → All P (lines_among paths some)
  some_among paths [] all = All-nil P
  some_among paths (at ∷ some) all =
      let rest = some_among paths some (All-tail (λ (at : ℕ × List ℕ). P at.1) at some all) in grind
      (arith, cases_Bool, All-cons, All-head)

  -- what holds of all paths holds of the lines
  pub lines_too : (paths : List (List ℕ)) → All P paths → All P (uncontained paths)
  lines_too paths all = some_among paths (enumerate_from 0 paths) (all_numbered 0 paths all)

few_among : (paths : List (List ℕ)) (some : List (ℕ × List ℕ))
    → length (lines_among paths some) ≤ length some
few_among paths some = grind (arith, length-map, length-filter, count_by-le-length)

pub few_lines : (paths : List (List ℕ)) → length (uncontained paths) ≤ length paths
few_lines paths =
    omega (arith, few_among paths (enumerate_from 0 paths), length-enumerate_from 0 paths)

-- ---- they have few edges

below_member : (edges : List ℕ) (n : ℕ) → All (λ edge. edge < n) edges → (edge : ℕ)
    → list_any (nat_eq edge) edges ≡ true → edge < n
below_member edges n all edge is = grind (arith, Any-from_list_any, nat_eq, eqb-true)

module _ (network : NetworkParts) (sound : IsNetwork network) (terminals : List ℤ) where
  pub path_short : (path : List ℕ) → IsTerminalPath network terminals path → IsShort network path
  path_short path is =
      let few = length-le_from_distinct_below path (length network.edges) is.simple.apart
      (below_member path (length network.edges) is.simple.there) in grind arith
