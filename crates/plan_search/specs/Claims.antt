-- Places that trips would take: each claim is by a trip, or by none where the place would be left, and
-- it leaves the place from which the trip was come to.
use Rattle.std.specs.Prelude.{ℕ, ◌≡◌, ◌+◌, ◌<◌, Bool, false, is_some, List, length, sum_by, get_or}
use Rattle.std.specs.Prelude.{slice_get, Option, Some, None}
use Rattle.plan_search.specs.declared.claim.Claim.{Claim}

-- the claim on each place, and the places in the order of their claims
pub record ClaimsParts : Type 0 where
  pub at : List (Option Claim)
  pub order : List ℕ

-- the claim on a place
abbrev pub claim_at : ClaimsParts → ℕ → Option Claim
claim_at claims place = get_or claims.at place None

-- one for a place without a claim
abbrev pub one_if_open : Option Claim → ℕ
one_if_open None = 1
one_if_open (Some found) = 0

-- each claimed place stands in the order at the step of its claim, and no other place does
pub record AreClaims (claims : ClaimsParts) : Type 0 where
  pub placed : (place : ℕ) (found : Claim) → claim_at claims place ≡ Some found
      → slice_get claims.order found.step ≡ Some place
  pub claimed : (step place : ℕ) → slice_get claims.order step ≡ Some place → place < length claims.at
  pub counted : length claims.order + sum_by one_if_open claims.at ≡ length claims.at

-- and flags tell which places are claimed
pub record AreFlagged (claims : ClaimsParts) (flags : List Bool) : Type 0 where
  pub claims_are : AreClaims claims
  pub each : length flags ≡ length claims.at
  pub flag : (place : ℕ) → get_or flags place false ≡ is_some (claim_at claims place)
