-- The paths over terminals with their stops are the paths between their ids.
use Rattle.plan_num.proofs.Common.{◌≡◌, ℕ, ℤ, ◌<◌, true, int_lt, List, [], ◌∷◌, arith, length, map}
use Rattle.plan_num.proofs.Common.{filter, filter_map, Option, refl, flat_map, All-map, All-weaker}
use Rattle.plan_num.proofs.Common.{filter_map-append, list_any, int_eq, AllPass-from_list_all}
use Rattle.plan_num.proofs.Common.{cases_Bool}
use Rattle.walks.proofs.Common.{NetworkParts, index_in, rising, way, all_rising}
use Rattle.terminal_lines.specs.TerminalPaths.{are_stops, paths_of}
use Rattle.terminal_lines.specs.Terminals.{AreStops, paths_over, terminal_of, way_between}
use Rattle.terminal_lines.proofs.TerminalWays.{is_index}

module _ (network : NetworkParts) where
  abbrev way_of : ℤ × ℤ → Option (List ℕ)
  way_of pair = way network (index_in network.stops pair.0) (index_in network.stops pair.1)

  ways_from : (from : ℤ) (ids : List ℤ)
      → filter_map (way_between network (terminal_of network.stops from))
      (map (terminal_of network.stops) ids)
      ≡ filter_map way_of (map (λ to. (from, to)) (filter (int_lt from) ids))
  ways_from from [] = refl
  ways_from from (to ∷ ids) = grind (arith, cases_Bool, int_lt, ways_from from ids)

  ways_over : (all ids : List ℤ)
      → flat_map (λ from. filter_map (way_between network from)
      (map (terminal_of network.stops) all))
      (map (terminal_of network.stops) ids)
      ≡ filter_map way_of (flat_map (λ from. map (λ to. (from, to)) (filter (int_lt from) all)) ids)
  ways_over all [] = refl
  ways_over all (from ∷ ids) =
      grind (arith, int_lt, filter_map, ways_from, filter_map-append, ways_over all ids)

  pub paths_are : (terminals : List ℤ)
      → paths_over network (map (terminal_of network.stops) (rising terminals))
      ≡ paths_of network terminals
  paths_are terminals = ways_over (rising terminals) (rising terminals)

  -- the terminals of known ids are stops
  pub stops_there : (terminals : List ℤ) → are_stops network.stops terminals ≡ true
      → AreStops network (map (terminal_of network.stops) (rising terminals))
  stops_there terminals all =
      let IsThere : ℤ → Type 0 = λ id. index_in network.stops id < length network.stops in
      let known = AllPass-from_list_all (λ id. list_any (int_eq id) network.stops) terminals all in
      let there = All-weaker (λ id. list_any (int_eq id) network.stops ≡ true) IsThere
      (λ id known. (is_index network.stops id known).within) terminals known in
      All-map (λ terminal. terminal.stop < length network.stops) (terminal_of network.stops)
      (rising terminals) (all_rising IsThere terminals there)
