-- Paths that are known.
use Rattle.plan_num.proofs.Common.{◌≡◌, ℕ, pos, ◌<◌, List, [], ◌∷◌, ◌++◌, length, get_or, refl}
use Rattle.plan_num.proofs.Common.{arith, Option, Some, None, option_map, is_some, cases_lt}
use Rattle.plan_num.proofs.Common.{get_or_push, get_or_past, length_push, get_or-map-range_with_len}
use Rattle.plan_num.proofs.Common.{get_or-append}
use Rattle.walks.proofs.Common.{NetworkParts, edge_length, least_sum, PathParts, paths_from}

-- one more place without paths
pub none_more : (known : List (Option PathParts)) (from : ℕ)
    → ((at : ℕ) → get_or known at None ≡ None) → get_or (known ++ None ∷ []) from None ≡ None
none_more known from none =
    grind (arith, cases_lt, known, get_or-append, get_or_past, length_push, get_or_push)

module _ (network : NetworkParts) (from : ℕ) where
  some_mapped : (sum : Option ℕ) → is_some (option_map pos sum) ≡ is_some sum
  some_mapped None = refl
  some_mapped (Some sum) = refl

  -- a stop is reached where a walk goes there
  pub is_reached : (paths : PathParts) (to : ℕ) → paths ≡ paths_from network from
      → to < length network.stops → is_some (get_or paths.lengths to None)
      ≡ is_some (least_sum network edge_length from to)
  is_reached paths to is within =
      grind (arith, is_some, get_or, get_or-map-range_with_len, option_map, some_mapped)
