-- Inner words of the search: potentials that meet a plan.
use Rattle.std.specs.Prelude.{ℕ, pos, ◌≡◌, ◌+◌, ◌<◌, false, List, Option, Some, MatchOption}
use Rattle.link_plans.specs.Plans.{next, is_next}
use Rattle.link_plans.specs.Links.{Links}
use Rattle.link_plans.specs.Potentials.{PotentialParts, at, AreOver}
use Rattle.link_plans.specs.Slacks.{Covers}

-- potentials cover the links of a trip, and are tight at its own one, or 0 where it has none; and so is
-- that of its place without a trip
pub record IsMet (links : Links) (potentials : PotentialParts) (plan : List (Option ℕ)) (i : ℕ) : Type 0 where
  pub covered : Covers links potentials i
  pub exact : MatchOption (next plan i) (at potentials.u i ≡ 0)
      (λ j. links.gain i j ≡ Some (pos (at potentials.u i + at potentials.v j)))
  pub free : is_next plan i ≡ false → at potentials.v i ≡ 0

-- the same of all trips
pub record AreMet (links : Links) (potentials : PotentialParts) (plan : List (Option ℕ)) : Type 0 where
  pub over : AreOver links.count potentials
  pub each : (i : ℕ) → i < links.count → IsMet links potentials plan i
