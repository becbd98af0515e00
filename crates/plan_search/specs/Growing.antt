-- Inner words of the search for a plan of least cost: the tree that grows from a trip that looks for a
-- place, and how near each place is to it.
use Rattle.std.specs.Prelude.{ℕ, ◌≡◌, ◌⊎◌, ◌+◌, ◌-◌, ◌<◌, ◌≤◌, ◌||◌, nat_eq, nat_lt, is_some}
use Rattle.std.specs.Prelude.{if◌then◌else◌, Bool, true, false, List, length, get_or, Option, Some}
use Rattle.std.specs.Prelude.{None, option_map, MatchOption, IfSome}
use Rattle.link_plans.specs.Plans.{next, is_next}
use Rattle.link_plans.specs.Links.{Links}
use Rattle.link_plans.specs.Potentials.{PotentialParts, at, AreOver}
use Rattle.plan_search.specs.declared.claim.Claim.{Claim}
use Rattle.plan_search.specs.declared.near.Near.{Near}
use Rattle.plan_search.specs.Claims.{ClaimsParts, claim_at}
use Rattle.plan_search.specs.Searches.{Search, IsTightBut, AreClaimsBefore}
use Rattle.link_plans.specs.Slacks.{slack_to, Covers}

-- the links from some trips alone
abbrev pub links_from : Links → (ℕ → Bool) → Links
links_from links some = record {
  count = links.count;
  gain = λ i j. if some i then links.gain i j else None;
}

-- a trip looks for a place, or has one
abbrev pub is_placed : ℕ → List (Option ℕ) → ℕ → Bool
is_placed trip plan i = nat_eq i trip || is_some (next plan i)

-- a trip looks for a place among those that have one
abbrev pub looking : Links → PotentialParts → List (Option ℕ) → ℕ → Search
looking links potentials plan trip = record {
  links = links_from links (is_placed trip plan);
  potentials = potentials;
  trip = trip;
  low = 0;
}

-- no trip looks for a place
abbrev pub settled : Links → PotentialParts → Search
settled links potentials = record {
  links = links;
  potentials = potentials;
  trip = links.count;
  low = 0;
}

-- a plan with potentials that cover the links of each trip with a next one, and are tight at it
pub record IsTaken (links : Links) (potentials : PotentialParts) (plan : List (Option ℕ)) : Type 0 where
  pub over : AreOver links.count potentials
  pub tight : IsTightBut (settled links potentials) links.count plan
  pub covered : (i j : ℕ) → next plan i ≡ Some j → Covers links potentials i

-- what is covered stays so
abbrev pub StillCovers : Links → PotentialParts → PotentialParts → Type 0
StillCovers links before after = (i : ℕ) → Covers links before i → Covers links after i

-- a place is claimed
abbrev pub is_claimed : ClaimsParts → ℕ → Bool
is_claimed claims place = is_some (claim_at claims place)

abbrev pub is_claimed_at : ClaimsParts → Option ℕ → Bool
is_claimed_at claims None = false
is_claimed_at claims (Some place) = is_claimed claims place

-- a trip is in the tree: it looks for a place, or has one that is claimed
abbrev pub in_tree : ℕ → List (Option ℕ) → ClaimsParts → ℕ → Bool
in_tree trip plan claims i = nat_eq i trip || is_claimed_at claims (next plan i)

-- the nearer one of a trip and what was the nearest one so far
abbrev pub nearer : ℕ → ℕ → Option ℕ → Option Near → Near
nearer slack by from None = record { slack = slack; by = by; from = from }
nearer slack by from (Some old) =
    if nat_lt slack old.slack then record { slack = slack; by = by; from = from } else old

-- and whether it is the trip
abbrev pub is_nearer : ℕ → Option Near → Bool
is_nearer slack None = true
is_nearer slack (Some old) = nat_lt slack old.slack

-- what is near to all places but one is as before
pub record AreAsBefore (place : ℕ) (before after : List (Option Near)) : Type 0 where
  pub each : length after ≡ length before
  pub others : (other : ℕ) → (other ≡ place → ⊥) → get_or after other None ≡ get_or before other None

-- a place has neither a claim nor a trip, and the slack of a trip is 0 there
pub record IsFreeAt (links : Links) (potentials : PotentialParts) (plan : List (Option ℕ))
    (claims : ClaimsParts) (by place : ℕ) : Type 0 where
  pub within : place < links.count + 1
  pub open_place : claim_at claims place ≡ None
  pub free : is_next plan place ≡ false
  pub slack : slack_to links potentials by place ≡ Some 0

-- what is nearest to a place without a claim, after one trip more was looked from
abbrev pub looked : Option Claim → Option ℕ → ℕ → Option ℕ → Option Near → Option Near
looked (Some found) slack by from old = old
looked None None by from old = old
looked None (Some slack) by from old = Some (nearer slack by from old)

-- the same at all places
abbrev pub AreLooked : Links → PotentialParts → ClaimsParts → ℕ → Option ℕ → List (Option Near)
    → List (Option Near) → Type 0
AreLooked links potentials claims by from before after =
    (place : ℕ) → place < length before → get_or after place None
    ≡ looked (claim_at claims place) (slack_to links potentials by place) by from (get_or before place None)

-- the same after all potentials were shifted
abbrev pub moved_near : ℕ → Near → Near
moved_near slack old = record { slack = old.slack - slack; by = old.by; from = old.from }

abbrev pub shifted : Option Claim → ℕ → Option Near → Option Near
shifted (Some found) slack old = old
shifted None slack old = option_map (moved_near slack) old

-- a trip leaves its claimed place, or is the one that looks for a place
abbrev pub IsFrom : ℕ → List (Option ℕ) → ClaimsParts → ℕ → Option ℕ → Type 0
IsFrom trip plan claims by None = by ≡ trip
IsFrom trip plan claims by (Some from) =
    (by ≡ trip → ⊥) × (next plan by ≡ Some from) × (is_claimed claims from ≡ true)

-- a trip is nearest to a place among some
pub record IsNearest (links : Links) (potentials : PotentialParts) (some : ℕ → Bool) (place : ℕ)
    (near : Near) : Type 0 where
  pub slack : slack_to links potentials near.by place ≡ Some near.slack
  pub least : (i : ℕ) → some i ≡ true
      → IfSome (slack_to links potentials i place) (λ slack. near.slack ≤ slack)

-- some trip is nearest to a place, or none of them can have it
abbrev pub IsNear : Links → PotentialParts → (ℕ → Bool) → ℕ → Option Near → Type 0
IsNear links potentials some place near = MatchOption near
    ((i : ℕ) → some i ≡ true → slack_to links potentials i place ≡ None)
    (IsNearest links potentials some place)

-- each place without a claim knows the nearest trip of the tree
pub record AreNear (links : Links) (potentials : PotentialParts) (trip : ℕ) (plan : List (Option ℕ))
    (claims : ClaimsParts) (nears : List (Option Near)) : Type 0 where
  pub each : length nears ≡ links.count + 1
  pub near : (place : ℕ) → place < links.count + 1 → claim_at claims place ≡ None
      → IsNear links potentials (in_tree trip plan claims) place (get_or nears place None)
  pub from : (place : ℕ) (near : Near) → claim_at claims place ≡ None → get_or nears place None ≡ Some near
      → IsFrom trip plan claims near.by near.from

-- a claim of the tree: some trip has the place, and it is by a trip of the tree
pub record IsTreeClaim (trip : ℕ) (plan : List (Option ℕ)) (claims : ClaimsParts) (place : ℕ)
    (found : Claim) : Type 0 where
  pub owner : ℕ
  pub owns : next plan owner ≡ Some place
  pub by : ℕ
  pub by_is : found.by ≡ Some by
  pub inside : in_tree trip plan claims by ≡ true

-- a tree that grows from a trip
pub record IsGrowing (links : Links) (potentials : PotentialParts) (trip : ℕ) (plan : List (Option ℕ))
    (claims : ClaimsParts) : Type 0 where
  pub over : AreOver links.count potentials
  pub within : trip < links.count
  pub places : length claims.at ≡ links.count + 1
  pub tight : IsTightBut (looking links potentials plan trip) links.count plan
  pub waits : next plan trip ≡ None
  pub covered : (i : ℕ) → is_placed trip plan i ≡ true → Covers links potentials i
  pub claims_are : AreClaimsBefore (looking links potentials plan trip) plan claims (length claims.order)
  pub tree : (place : ℕ) (found : Claim) → claim_at claims place ≡ Some found
      → IsTreeClaim trip plan claims place found

-- the nearest place without a claim: none is nearer
pub record IsNearestPlace (claims : ClaimsParts) (nears : List (Option Near)) (place : ℕ) (near : Near) : Type 0 where
  pub within : place < length nears
  pub open_place : claim_at claims place ≡ None
  pub is : get_or nears place None ≡ Some near
  pub least : (other : ℕ) → other < length nears → claim_at claims other ≡ None
      → IfSome (get_or nears other None) (λ it. near.slack ≤ it.slack)

-- the potentials after those of the tree were shifted
pub record AreShifted (trip : ℕ) (plan : List (Option ℕ)) (claims : ClaimsParts) (slack count : ℕ)
    (before after : PotentialParts) : Type 0 where
  pub over : AreOver count after
  pub u : (i : ℕ) → i < count
      → at after.u i ≡ (if in_tree trip plan claims i then at before.u i - slack else at before.u i)
  pub v : (j : ℕ) → j < count
      → at after.v j ≡ (if is_claimed claims j then at before.v j + slack else at before.v j)

-- what is nearest to a place without a claim
abbrev pub open_near : Option Claim → Option Near → Option Near
open_near None near = near
open_near (Some found) near = None

-- one of two places, and none of them is nearer
pub record IsNearerOf (best other found : ℕ × Near) : Type 0 where
  pub one : (found ≡ best) ⊎ (found ≡ other)
  pub before : found.1.slack ≤ best.1.slack
  pub after : found.1.slack ≤ other.1.slack

-- the nearest place so far, after another one
abbrev pub IsBetter : Option (ℕ × Near) → ℕ → Option Near → Option (ℕ × Near) → Type 0
IsBetter best place None found = found ≡ best
IsBetter None place (Some near) found = found ≡ Some (place, near)
IsBetter (Some best) place (Some near) found = IfSome found (IsNearerOf best (place, near)) × (is_some found ≡ true)
