-- How near places are, and the slacks alone, which are asked most.
use Rattle.std.specs.Prelude.{ℕ, ◌≡◌, ◌+◌, ◌-◌, ◌<◌, ◌≤◌, ◌==◌, Bool, false, List, length, get_or}
use Rattle.std.specs.Prelude.{slice_get, Option, Some, None}
use Rattle.link_plans.specs.Potentials.{at}
use Rattle.link_plans.specs.declared.link_table.Link.{Link}
use Rattle.plan_search.specs.Growing.{is_nearer}
use Rattle.plan_search.specs.declared.near.Near.{Near}

-- the slack at a place; more than any slack where nothing is near
abbrev pub slack_or_most : Option Near → ℕ
slack_or_most None = 18446744073709551615
slack_or_most (Some near) = near.slack

-- something is as near as can be
abbrev pub is_exact : Option Near → Bool
is_exact None = false
is_exact (Some near) = near.slack == 0

-- the slacks at all places
pub record AreSlacks (nears : List (Option Near)) (slacks : List ℕ) : Type 0 where
  pub each : length slacks ≡ length nears
  pub slack : (place : ℕ) → place < length nears
      → get_or slacks place 0 ≡ slack_or_most (get_or nears place None)

-- links of a trip to places of which so many are known, and which its potential and theirs cover
pub record IsNearLink (own : ℕ) (v : List ℕ) (places : ℕ) (link : Link) : Type 0 where
  pub trip : link.to < length v
  pub place : link.to < places
  pub covered : link.gain ≤ own + at v link.to

abbrev pub AreNearLinks : List Link → ℕ → List ℕ → ℕ → Type 0
AreNearLinks links own v places = (k : ℕ) (link : Link) → slice_get links k ≡ Some link
    → IsNearLink own v places link

-- at the places of the links from one on, up to another, the trip is not nearer than what was nearest
abbrev pub ArePassed : List Link → ℕ → List ℕ → List (Option Near) → ℕ → ℕ → Type 0
ArePassed links own v nears first end = (k : ℕ) (link : Link) → first ≤ k → k < end
    → slice_get links k ≡ Some link
    → is_nearer (own + at v link.to - link.gain) (get_or nears link.to None) ≡ false
