-- Inner words of the choice among the plans of least cost: the places that undecided trips may take,
-- and which of them a search has claimed.
use Rattle.std.specs.Prelude.{ℕ, ◌≡◌, ◌+◌, ◌<◌, ◌≤◌, Bool, true, false, is_some, List, length}
use Rattle.std.specs.Prelude.{slice_get, Option, Some, None}
use Rattle.link_plans.specs.Plans.{next, is_next, IsPlan, AreSuccessors, ComesNoLater}
use Rattle.link_plans.specs.Potentials.{PotentialParts, at, AreOver, IsTight}
use Rattle.plan_search.specs.declared.claim.Claim.{Claim}
use Rattle.plan_search.specs.Claims.{ClaimsParts, claim_at}
use Rattle.link_plans.specs.Places.{place_of}
use Rattle.plan_search.specs.Searches.{Search, IsTightBy, IsClaim}
use Rattle.link_plans.specs.Links.{Links}

-- the places below a number for which something holds, in rising order
pub record ArePlaces (P : ℕ → Type 0) (below : ℕ) (places : List ℕ) : Type 0 where
  pub rising : (k m : ℕ) → k < m → m < length places → at places k < at places m
  pub right : (k : ℕ) → k < length places → P (at places k)
  pub within : (k : ℕ) → k < length places → at places k < below
  pub all : (place : ℕ) → place < below → P place
      → (k : ℕ) × ((k < length places) × (at places k ≡ place))

-- a place is undecided: no trip before the first movable one has it
abbrev pub IsUndecided : List (Option ℕ) → ℕ → ℕ → Type 0
IsUndecided plan low place = (i : ℕ) → next plan i ≡ Some place → low ≤ i

-- a place is claimed
abbrev pub is_claimed : ClaimsParts → ℕ → Bool
is_claimed claims place = is_some (claim_at claims place)

-- the same for each undecided place at which a trip or none is tight
abbrev pub AllClaimed : Search → List (Option ℕ) → ClaimsParts → Option ℕ → Type 0
AllClaimed search plan claims by = (place : ℕ) → place < search.links.count + 1
    → IsUndecided plan search.low place → IsTightBy search.links search.potentials place by
    → is_claimed claims place ≡ true

-- a place is expanded: those who have it, or none, claim all that they are tight at
pub record IsExpanded (search : Search) (plan : List (Option ℕ)) (claims : ClaimsParts)
    (place : ℕ) : Type 0 where
  pub by : (i : ℕ) → search.low ≤ i → i < search.links.count
      → place_of search.links.count (next plan i) ≡ place → AllClaimed search plan claims (Some i)
  pub alone : is_next plan place ≡ false → AllClaimed search plan claims None

-- the trips before one that have no next one claim all that they are tight at
abbrev pub LastExpanded : Search → List (Option ℕ) → ClaimsParts → ℕ → Type 0
LastExpanded search plan claims most = (i : ℕ) → search.low ≤ i → i < most → next plan i ≡ None
    → AllClaimed search plan claims (Some i)

-- the places that were claimed before a step are expanded
abbrev pub AreExpanded : Search → List (Option ℕ) → ClaimsParts → ℕ → Type 0
AreExpanded search plan claims step = (before place : ℕ) → before < step
    → slice_get claims.order before ≡ Some place → IsExpanded search plan claims place

-- what a search keeps: each claim is one, on an undecided place, and the places stand in the order
pub record AreRight (search : Search) (plan : List (Option ℕ)) (claims : ClaimsParts) : Type 0 where
  pub places : length claims.at ≡ search.links.count + 1
  pub few : length claims.order ≤ length claims.at
  pub claim : (place : ℕ) (found : Claim) → claim_at claims place ≡ Some found
      → IsClaim search plan claims place found
  pub undecided : (place : ℕ) (found : Claim) → claim_at claims place ≡ Some found
      → IsUndecided plan search.low place
  pub placed : (place : ℕ) (found : Claim) → claim_at claims place ≡ Some found
      → slice_get claims.order found.step ≡ Some place
  pub listed : (step place : ℕ) → slice_get claims.order step ≡ Some place
      → is_claimed claims place ≡ true

-- some more claims
pub record AreMore (before after : ClaimsParts) : Type 0 where
  pub kept : (place : ℕ) (found : Claim) → claim_at before place ≡ Some found
      → claim_at after place ≡ Some found
  pub order : (step place : ℕ) → slice_get before.order step ≡ Some place
      → slice_get after.order step ≡ Some place

-- the claims of the trip that looks for a place are as before
abbrev pub AreOthers : Search → ClaimsParts → ClaimsParts → Type 0
AreOthers search before after = (place : ℕ) (found : Claim) → claim_at after place ≡ Some found
    → found.by ≡ Some search.trip → claim_at before place ≡ Some found

-- the plan is tight, and the trip that looks for a place is the first one that is undecided
pub record IsSearch (search : Search) (plan : List (Option ℕ)) : Type 0 where
  pub first : search.low ≡ search.trip
  pub within : search.trip < search.links.count
  pub over : AreOver search.links.count search.potentials
  pub successors : AreSuccessors plan
  pub possible : IsPlan search.links plan
  pub tight : IsTight search.links search.potentials plan

-- two plans agree before a trip
abbrev pub AgreeBefore : ℕ → List (Option ℕ) → List (Option ℕ) → Type 0
AgreeBefore trip plan other = (i : ℕ) → i < trip → next other i ≡ next plan i

-- links lead to trips
abbrev pub AreWithin : Links → List (Option ℕ) → Type 0
AreWithin links plan = (i j : ℕ) → next plan i ≡ Some j → j < links.count

-- no tight plan that agrees with a plan on what is decided has an earlier place for the trip that
-- looks for one
abbrev pub IsFirst : Search → List (Option ℕ) → ℕ → Type 0
IsFirst search plan place = (other : List (Option ℕ)) → IsPlan search.links other
    → AreWithin search.links other → IsTight search.links search.potentials other
    → AgreeBefore search.low plan other → place ≤ place_of search.links.count
    (next other search.trip)

-- the own place of the trip is claimed, and each that it claims itself is the first one
pub record IsSought (search : Search) (plan : List (Option ℕ)) (claims : ClaimsParts)
    (own : ℕ) : Type 0 where
  pub right : AreRight search plan claims
  pub claimed : is_claimed claims own ≡ true
  pub first : (place : ℕ) (found : Claim) → claim_at claims place ≡ Some found
      → found.by ≡ Some search.trip → IsFirst search plan place

-- of all tight plans that agree with a plan before a trip, none has an earlier successor for it
abbrev pub IsLeast : Links → PotentialParts → List (Option ℕ) → ℕ → Type 0
IsLeast links potentials plan trip = (other : List (Option ℕ)) → IsPlan links other
    → AreWithin links other → IsTight links potentials other → AgreeBefore trip plan other
    → ComesNoLater (next plan trip) (next other trip)

-- a trip has its place for good: the plan is tight and agrees with the one before
pub record IsSettled (search : Search) (before after : List (Option ℕ)) : Type 0 where
  pub possible : IsPlan search.links after
  pub tight : IsTight search.links search.potentials after
  pub same : AgreeBefore search.trip before after
  pub least : IsLeast search.links search.potentials after search.trip
