-- Potentials of trips: valid ones prove that no plan gains more.
use Rattle.std.specs.Prelude.{ℕ, pos, ◌≡◌, ◌↔◌, ◌+◌, ◌≤◌, ◌≤ℤ◌, false, List, length, sum, get_or}
use Rattle.std.specs.Prelude.{Option, Some, None, IfSome, All}
use Rattle.link_plans.specs.declared.limits.TheConstants.{MOST_POTENTIAL}
use Rattle.link_plans.specs.Links.{Links}
use Rattle.link_plans.specs.Plans.{next, is_next, plan_gain, IsPlan, IsBest}

-- two numbers for each trip, in millionths: u is for its link to the next one, v for that from the one
-- before
pub record PotentialParts : Type 0 where
  pub u : List ℕ
  pub v : List ℕ

-- the number of a trip
abbrev pub at : List ℕ → ℕ → ℕ
at numbers trip = get_or numbers trip 0

-- a number is in the range of potentials
abbrev pub IsSmall : ℕ → Type 0
IsSmall number = number ≤ MOST_POTENTIAL

-- what holds of potentials: each trip has both, and they are in their range
pub record ArePotentials (potentials : PotentialParts) : Type 0 where
  pub each : length potentials.u ≡ length potentials.v
  pub u_small : All IsSmall potentials.u
  pub v_small : All IsSmall potentials.v

-- potentials of so many trips
pub record AreOver (count : ℕ) (potentials : PotentialParts) : Type 0 where
  pub each_u : length potentials.u ≡ count
  pub each_v : length potentials.v ≡ count

-- all potentials together
abbrev pub total : PotentialParts → ℕ
total potentials = sum potentials.u + sum potentials.v

-- potentials are valid for a plan: no link gains more than its two, and all together are the plan's gain
pub record AreValid (links : Links) (plan : List (Option ℕ)) (potentials : PotentialParts) : Type 0 where
  pub over : AreOver links.count potentials
  pub covered : (i j : ℕ) → IfSome (links.gain i j)
      (λ gain. gain ≤ℤ pos (at potentials.u i + at potentials.v j))
  pub exact : pos (total potentials) ≡ plan_gain links plan

-- a plan is tight: each link gains exactly its two potentials, and on a side without a link a trip has 0
pub record IsTight (links : Links) (potentials : PotentialParts) (plan : List (Option ℕ)) : Type 0 where
  pub linked : (i j : ℕ) → next plan i ≡ Some j
      → links.gain i j ≡ Some (pos (at potentials.u i + at potentials.v j))
  pub last : (i : ℕ) → next plan i ≡ None → at potentials.u i ≡ 0
  pub first : (j : ℕ) → is_next plan j ≡ false → at potentials.v j ≡ 0

-- what valid potentials prove: exactly the tight plans gain the most
abbrev pub TightAreBest : Links → PotentialParts → Type 0
TightAreBest links potentials = (plan : List (Option ℕ)) → IsPlan links plan
    → (IsBest links plan ↔ IsTight links potentials plan)
