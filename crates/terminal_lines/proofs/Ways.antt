-- Paths between stops, where a walk joins them.
use Rattle.plan_num.proofs.Common.{◌≡◌, ℕ, pos, ◌<◌, true, false, cond, List, [], ◌++◌, length}
use Rattle.plan_num.proofs.Common.{get_or, ap, sym, ◌∙◌, arith, Option, Some, None, option_map}
use Rattle.plan_num.proofs.Common.{option_to_list, is_some, cons_option, get_or-map-range_with_len}
use Rattle.walks.proofs.Common.{NetworkParts, PathParts, path, paths_from, way, edge_length}
use Rattle.walks.proofs.Common.{least_sum}
use Rattle.terminal_lines.specs.declared.terminal.Terminal.{Terminal}

abbrev pub no_terminal : Terminal
no_terminal = record { id = pos 0; stop = 0 }

-- what was found is put behind a list
pub listed : (old new : List (List ℕ)) (found wanted : Option (List ℕ)) → found ≡ wanted
    → new ≡ old ++ option_to_list found → new ≡ old ++ cons_option wanted []
listed old new found wanted is put = grind (arith, option_to_list)

module _ (network : NetworkParts) (from to : ℕ) where
  -- a stop is reached where a walk goes there
  pub is_reached : (paths : PathParts) → paths ≡ paths_from network from → to < length network.stops
      → is_some (get_or paths.lengths to None) ≡ is_some (least_sum network edge_length from to)
  is_reached paths is within = grind (arith, is_some, get_or, get_or-map-range_with_len, option_map)

  pub no_way : is_some (least_sum network edge_length from to) ≡ false → None ≡ way network from to
  no_way none = sym (ap (λ b. cond b (Some (path network from to)) None) none)

  pub way_is : (found : List ℕ) → is_some (least_sum network edge_length from to) ≡ true
      → found ≡ path network from to → Some found ≡ way network from to
  way_is found there is =
      ap Some is ∙ sym (ap (λ b. cond b (Some (path network from to)) None) there)
