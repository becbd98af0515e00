-- Inner words of the search: a tight plan, and the alternating tree with slacks that grows over it.
use Rattle.std.specs.Prelude.{ℕ, ◌≡◌, ◌+◌, ◌<◌, ◌≤◌, false, List, [], ◌∷◌, ◌++◌, length, get_or}
use Rattle.std.specs.Prelude.{replicate, slice_set, Option, Some, None, IfSome}
use Rattle.link_plans.specs.Links.{links_in, AreLinks}
use Rattle.link_plans.specs.Plans.{is_next}
use Rattle.link_plans.specs.Potentials.{PotentialParts}
use Rattle.link_plans.specs.Slacks.{slack_to, Covers}
use Rattle.link_plans.specs.declared.link_table.Link.{Link}
use Rattle.plan_search.specs.declared.near.Member.{Member}
use Rattle.plan_search.specs.declared.near.Near.{Near}
use Rattle.plan_search.specs.Claims.{ClaimsParts, claim_at}
use Rattle.plan_search.specs.Growing.{shifted, IsFrom, IsGrowing, IsTaken, AreNear, StillCovers}

-- a plan over links with its potentials, and room for the claims and the slacks of a tree
pub record PlanParts : Type 0 where
  pub links : List (List Link)
  pub plan : List (Option ℕ)
  pub potentials : PotentialParts
  pub claims : ClaimsParts
  pub nears : List (Option Near)

-- the plan is tight, and the potentials cover the links of each trip that has a place
pub record IsTightPlan (tight : PlanParts) : Type 0 where
  pub sound : AreLinks (links_in tight.links)
  pub taken : IsTaken (links_in tight.links) tight.potentials tight.plan
  pub places : length tight.claims.at ≡ length tight.links + 1
  pub near_each : length tight.nears ≡ length tight.links + 1

-- the same with the root of a tree
pub record TreeParts : Type 0 where
  pub links : List (List Link)
  pub plan : List (Option ℕ)
  pub potentials : PotentialParts
  pub claims : ClaimsParts
  pub nears : List (Option Near)
  pub root : ℕ

-- the claims are those of a tree that grows from the root, and a slack is known for each place
pub record IsTree (tree : TreeParts) : Type 0 where
  pub sound : AreLinks (links_in tree.links)
  pub growing : IsGrowing (links_in tree.links) tree.potentials tree.root tree.plan tree.claims
  pub near_each : length tree.nears ≡ length tree.links + 1

-- the tree was looked from all its trips: each place without a claim knows the nearest one
abbrev pub IsLooked : TreeParts → Type 0
IsLooked tree =
    AreNear (links_in tree.links) tree.potentials tree.root tree.plan tree.claims tree.nears

-- a tree of its root alone, which was not looked from
pub record IsBare (tree : TreeParts) : Type 0 where
  pub unclaimed : tree.claims ≡ record { at = replicate (length tree.links + 1) None; order = [] }
  pub unseen : tree.nears ≡ replicate (length tree.links + 1) None

-- a tree of a trip alone over a tight plan, whose potentials were raised where they had to be
pub record IsRooted (tight : PlanParts) (root : ℕ) (tree : TreeParts) : Type 0 where
  pub links : tree.links ≡ tight.links
  pub root_is : tree.root ≡ root
  pub bare : IsBare tree
  pub kept : StillCovers (links_in tight.links) tight.potentials tree.potentials

-- two trees over one plan and its links, from one root
pub record AreOverOne (before after : TreeParts) : Type 0 where
  pub links : after.links ≡ before.links
  pub plan : after.plan ≡ before.plan
  pub root : after.root ≡ before.root

-- a trip of the tree is tight at a place without a claim
pub record IsReached (tree : TreeParts) (place : ℕ) (member : Member) : Type 0 where
  pub within : place < length tree.links + 1
  pub unclaimed : claim_at tree.claims place ≡ None
  pub slack : slack_to (links_in tree.links) tree.potentials member.by place ≡ Some 0
  pub comes : IsFrom tree.root tree.plan tree.claims member.by member.from

-- an end of the tree: such a place that no trip has
pub record IsEnd (tree : TreeParts) (end : ℕ × Member) : Type 0 where
  pub reached : IsReached tree end.0 end.1
  pub free : is_next tree.plan end.0 ≡ false

-- no slack at a place without a claim is less than one
abbrev pub IsLeast : TreeParts → ℕ → Type 0
IsLeast tree slack = (place : ℕ) → place < length tree.nears → claim_at tree.claims place ≡ None
    → IfSome (get_or tree.nears place None) (λ near. slack ≤ near.slack)

-- the same tree after its potentials were shifted by a slack: each place without a claim is nearer by it
pub record IsShifted (before : TreeParts) (slack : ℕ) (after : TreeParts) : Type 0 where
  pub same : after ≡ record before { potentials = after.potentials; nears = after.nears }
  pub kept : StillCovers (links_in before.links) before.potentials after.potentials
  pub looked : IsLooked after
  pub near_each : length after.nears ≡ length before.nears
  pub nearer : (place : ℕ) → place < length before.nears → get_or after.nears place None
      ≡ shifted (claim_at before.claims place) slack (get_or before.nears place None)

-- the claims and one more, of a trip of the tree on a place
abbrev pub with_claim : ClaimsParts → ℕ → Member → ClaimsParts
with_claim claims place member = record {
  at = slice_set claims.at place
      (Some (record { by = Some member.by; from = member.from; step = length claims.order }));
  order = claims.order ++ place ∷ [];
}

-- one place more is claimed, and not all were
pub record HasGrown (before after : TreeParts) : Type 0 where
  pub one : length after.claims.order ≡ length before.claims.order + 1
  pub few : length before.claims.order < length before.links + 1

-- a tree has given the place at its end to its root
pub record IsAugmented (tree : TreeParts) (after : PlanParts) : Type 0 where
  pub links : after.links ≡ tree.links
  pub potentials : after.potentials ≡ tree.potentials
  pub own : Covers (links_in tree.links) tree.potentials tree.root

-- one trip more is taken into a tight plan
pub record TakesIn (before : PlanParts) (trip : ℕ) (after : PlanParts) : Type 0 where
  pub links : after.links ≡ before.links
  pub own : Covers (links_in before.links) after.potentials trip
  pub kept : StillCovers (links_in before.links) before.potentials after.potentials
