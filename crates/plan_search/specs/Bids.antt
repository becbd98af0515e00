-- Inner words of the first plan: what a trip offers for a place.
use Rattle.std.specs.Prelude.{ℕ, ◌≡◌, ◌+◌, ◌≤◌, ◌&&◌, max, not, if◌then◌else◌, Bool, false, List}
use Rattle.std.specs.Prelude.{Option, Some, None, IfSome}
use Rattle.link_plans.specs.declared.limits.TheConstants.{MOST_GAIN}
use Rattle.link_plans.specs.Plans.{next, is_next}
use Rattle.link_plans.specs.Links.{Links}
use Rattle.link_plans.specs.Potentials.{PotentialParts, at, AreOver}
use Rattle.plan_search.specs.declared.bid.Offer.{Offer}
use Rattle.link_plans.specs.declared.link_table.Link.{Link}
use Rattle.plan_search.specs.Growing.{settled}
use Rattle.link_plans.specs.LinkRows.{IsLinkOf}
use Rattle.plan_search.specs.Searches.{IsTightBut}
use Rattle.link_plans.specs.LinkRows.{worth}
use Rattle.link_plans.specs.Slacks.{Covers}

-- a plan as of trips that are taken in, but the potential of a place without a trip may be any
pub record IsTakenBut (links : Links) (potentials : PotentialParts) (place : ℕ) (plan : List (Option ℕ)) : Type 0 where
  pub over : AreOver links.count potentials
  pub tight : IsTightBut (settled links potentials) place plan
  pub covered : (i j : ℕ) → next plan i ≡ Some j → Covers links potentials i

-- what an offer is after one link more, by whether this is the best so far
abbrev pub next_offer : Offer → Link → ℕ → Bool → Offer
next_offer offer link rest wins =
    if wins then record { best = Some link; most = rest; rest = offer.most }
    else record { best = offer.best; most = offer.most; rest = max offer.rest rest }

-- a place has no trip, and that of a link has one
abbrev pub is_freer : List (Option ℕ) → Option Link → ℕ → Bool
is_freer plan None place = false
is_freer plan (Some link) place = not (is_next plan place) && is_next plan link.to

-- all links of a trip but one gain no more than a number beyond the potentials of their places
abbrev pub AreOthersBelow : Links → PotentialParts → ℕ → ℕ → ℕ → Type 0
AreOthersBelow links potentials i place rest = (j gain : ℕ) → worth (links.gain i j) ≡ Some gain
    → (j ≡ place → ⊥) → gain ≤ rest + at potentials.v j

-- what a trip offers: no link of it gains more than the best beyond the potential of its place, and none
-- but the best more than the rest
pub record IsBid (links : Links) (potentials : PotentialParts) (i : ℕ) (offer : Offer) : Type 0 where
  pub low : offer.rest ≤ offer.most
  pub small : offer.most ≤ MOST_GAIN
  pub link : IfSome offer.best (IsLinkOf links i links.count)
  pub best : IfSome offer.best (λ link. link.gain ≡ offer.most + at potentials.v link.to)
  pub others : IfSome offer.best (λ link. AreOthersBelow links potentials i link.to offer.rest)
