-- Paths that are known.
use Rattle.std.specs.Prelude.{ℕ, ◌≡◌, ◌<◌, List, length, get_or, Option, None, IfSome}
use Rattle.walks.specs.Networks.{NetworkParts}
use Rattle.walks.specs.Paths.{PathParts, ArePaths}

-- of each stop of a network the paths from it, where they are known
pub record AreKnown (network : NetworkParts) (known : List (Option PathParts)) : Type 0 where
  pub size : length known ≡ length network.stops
  pub right : (from : ℕ) → from < length network.stops
      → IfSome (get_or known from None) (ArePaths network from)
