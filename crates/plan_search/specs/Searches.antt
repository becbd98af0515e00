-- Inner words of both searches: a plan that is tight for potentials but for a trip that looks for a
-- place and for a place that was left, and claims along which places can be handed on.
use Rattle.std.specs.Prelude.{ℕ, pos, ◌≡◌, ◌+◌, ◌<◌, ◌≤◌, false, List, length, slice_set, Option}
use Rattle.std.specs.Prelude.{Some, None, MatchOption, IfSome}
use Rattle.link_plans.specs.Plans.{next, is_next}
use Rattle.link_plans.specs.Links.{Links}
use Rattle.link_plans.specs.Potentials.{PotentialParts, at}
use Rattle.plan_search.specs.declared.claim.Claim.{Claim}
use Rattle.plan_search.specs.Claims.{ClaimsParts, claim_at}
use Rattle.link_plans.specs.Places.{successor_at}

-- a trip that looks for a place: the links between all trips, their potentials, the trip, and the
-- first trip that may be moved for it
pub record Search : Type 0 where
  pub links : Links
  pub potentials : PotentialParts
  pub trip : ℕ
  pub low : ℕ

-- the potentials of a trip and of a place are exactly the gain of its link; behind all trips the trip's
-- own is 0
pub record IsTightAt (links : Links) (potentials : PotentialParts) (i place : ℕ) : Type 0 where
  pub linked : place < links.count → links.gain i place ≡ Some (pos (at potentials.u i + at potentials.v place))
  pub last : links.count ≤ place → at potentials.u i ≡ 0

-- the same of a trip or none, without which the potential of the place is 0
abbrev pub IsTightBy : Links → PotentialParts → ℕ → Option ℕ → Type 0
IsTightBy links potentials place None = at potentials.v place ≡ 0
IsTightBy links potentials place (Some i) = IsTightAt links potentials i place

-- a plan is tight, but the trip that looks for a place may be without one, and a place without its trip
pub record IsTightBut (search : Search) (place : ℕ) (plan : List (Option ℕ)) : Type 0 where
  pub each : length plan ≡ search.links.count
  pub within : (i j : ℕ) → next plan i ≡ Some j → j < search.links.count
  pub linked : (i j : ℕ) → next plan i ≡ Some j
      → search.links.gain i j ≡ Some (pos (at search.potentials.u i + at search.potentials.v j))
  pub once : (i other j : ℕ) → next plan i ≡ Some j → next plan other ≡ Some j → i ≡ other
  pub last : (i : ℕ) → (i ≡ search.trip → ⊥) → next plan i ≡ None → at search.potentials.u i ≡ 0
  pub first : (j : ℕ) → j < search.links.count → (j ≡ place → ⊥) → is_next plan j ≡ false → at search.potentials.v j ≡ 0

-- a place is left by a trip that has it and is not the one that looks, or has no trip
abbrev pub IsLeft : Search → List (Option ℕ) → ℕ → Option ℕ → Type 0
IsLeft search plan from None = is_next plan from ≡ false
IsLeft search plan from (Some i) = (i ≡ search.trip → ⊥) × (next plan i ≡ successor_at search.links.count from)

-- a claim leaves a place that was claimed sooner
pub record ComesFrom (search : Search) (plan : List (Option ℕ)) (claims : ClaimsParts) (found : Claim)
    (from : ℕ) : Type 0 where
  pub before : Claim
  pub is : claim_at claims from ≡ Some before
  pub sooner : before.step < found.step
  pub left : IsLeft search plan from found.by

-- a claim: a trip that may be moved would be tight at the place, and leaves one that was claimed sooner,
-- or is the trip that looks for a place
pub record IsClaim (search : Search) (plan : List (Option ℕ)) (claims : ClaimsParts) (place : ℕ)
    (found : Claim) : Type 0 where
  pub tight : IsTightBy search.links search.potentials place found.by
  pub movable : IfSome found.by (λ i. (search.low ≤ i) × (i < search.links.count))
  pub from : MatchOption found.from (found.by ≡ Some search.trip)
      (λ from. ComesFrom search plan claims found from)

-- all claims before a step are some
abbrev pub AreClaimsBefore : Search → List (Option ℕ) → ClaimsParts → ℕ → Type 0
AreClaimsBefore search plan claims step =
    (place : ℕ) (found : Claim) → claim_at claims place ≡ Some found → found.step < step
    → IsClaim search plan claims place found

-- a trip without a place looks for one, and one that is claimed and has no trip can be handed on to it
pub record IsFound (search : Search) (plan : List (Option ℕ)) (claims : ClaimsParts) (place : ℕ) : Type 0 where
  pub places : length claims.at ≡ search.links.count + 1
  pub within : search.trip < search.links.count
  pub low : search.low ≤ search.trip
  pub tight : IsTightBut search place plan
  pub waits : next plan search.trip ≡ None
  pub free : is_next plan place ≡ false
  pub found : Claim
  pub claimed : claim_at claims place ≡ Some found
  pub before : AreClaimsBefore search plan claims (found.step + 1)

-- what handing on leaves: a tight plan, in which the trip has a place that it claimed, and no trip
-- before the first movable one is moved
pub record IsHandedOn (search : Search) (claims : ClaimsParts) (before after : List (Option ℕ)) : Type 0 where
  pub each : length after ≡ search.links.count
  pub within : (i j : ℕ) → next after i ≡ Some j → j < search.links.count
  pub linked : (i j : ℕ) → next after i ≡ Some j
      → search.links.gain i j ≡ Some (pos (at search.potentials.u i + at search.potentials.v j))
  pub once : (i other j : ℕ) → next after i ≡ Some j → next after other ≡ Some j → i ≡ other
  pub last : (i : ℕ) → next after i ≡ None → at search.potentials.u i ≡ 0
  pub first : (j : ℕ) → j < search.links.count → is_next after j ≡ false → at search.potentials.v j ≡ 0
  pub same : (i : ℕ) → i < search.low → next after i ≡ next before i
  pub place : ℕ
  pub found : Claim
  pub claimed : claim_at claims place ≡ Some found
  pub own : found.by ≡ Some search.trip
  pub next_is : next after search.trip ≡ successor_at search.links.count place

-- the step at which a place was claimed
abbrev pub step_of : Option Claim → ℕ
step_of None = 0
step_of (Some found) = found.step

-- a plan after a place was given to a trip, or to none
abbrev pub given_to : List (Option ℕ) → Option ℕ → ℕ → List (Option ℕ)
given_to plan None place = plan
given_to plan (Some i) place = slice_set plan i (successor_at (length plan) place)

-- a place was given to the trip that claims it, and the one that this leaves can be handed on
pub record IsPassedOn (search : Search) (claims : ClaimsParts) (before after : List (Option ℕ))
    (place from : ℕ) : Type 0 where
  pub found : IsFound search after claims from
  pub sooner : step_of (claim_at claims from) < step_of (claim_at claims place)
  pub same : (i : ℕ) → i < search.low → next after i ≡ next before i
