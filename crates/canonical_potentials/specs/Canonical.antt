-- The canonical potentials of a plan, by the least costs of walks in its residual graph.
use Rattle.std.specs.Prelude.{ℕ, ℤ, pos, ◌≡◌, ◌<◌, ◌-ℤ◌, List, Option}
use Rattle.std.specs.Int.{int_max}
use Rattle.link_plans.specs.Links.{Links}
use Rattle.link_plans.specs.Potentials.{PotentialParts, at, AreOver}
use Rattle.canonical_potentials.specs.Residual.{root, left, right, IsLeastCost}

-- u is how far the left node of a trip lies above the root, and v how far its right one lies below it
pub record AreCanonical (links : Links) (plan : List (Option ℕ)) (potentials : PotentialParts) : Type 0 where
  pub over : AreOver links.count potentials
  pub base : ℤ
  pub base_least : IsLeastCost links plan root base
  pub u : (i : ℕ) → i < links.count
      → (cost : ℤ) × (IsLeastCost links plan (left i) cost
      × (pos (at potentials.u i) ≡ int_max (pos 0) (cost -ℤ base)))
  pub v : (j : ℕ) → j < links.count
      → (cost : ℤ) × (IsLeastCost links plan (right j) cost
      × (pos (at potentials.v j) ≡ int_max (pos 0) (base -ℤ cost)))
