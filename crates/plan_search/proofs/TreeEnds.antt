-- How a tree begins over a tight plan, and what is left where it is augmented.
use Rattle.plan_num.proofs.Common.{arith, ◌≡◌, ℕ, ◌<◌, ◌+◌, List, [], length, slice_set, replicate}
use Rattle.plan_num.proofs.Common.{Option, None, Result, Ok, Err, IfOk, refl, ap, sym, ◌∙◌, subst}
use Rattle.plan_num.proofs.Common.{length-replicate, length-set}
use Rattle.link_plans.proofs.Common.{links_in, next, PotentialParts, Covers}
use Rattle.plan_search.specs.declared.near.Member.{Member}
use Rattle.plan_search.specs.declared.near.Near.{Near}
use Rattle.plan_search.specs.Claims.{ClaimsParts, AreClaims}
use Rattle.plan_search.specs.Growing.{looking, StillCovers}
use Rattle.plan_search.specs.Searches.{IsFound, IsHandedOn}
use Rattle.plan_search.specs.Trees.{PlanParts, TreeParts, with_claim, IsTightPlan, IsTree, IsEnd, IsRooted}
use Rattle.plan_search.specs.Trees.{AreOverOne, IsAugmented, TakesIn}
use Rattle.plan_search.proofs.TakenIn.{no_near, started, kept_now, taken_more}
use Rattle.plan_search.proofs.TreeSteps.{found, member_covered, root_inside}

-- a tree of a trip without a place alone
module _ (tight : PlanParts) (is : IsTightPlan tight) (root : ℕ) (within : root < length tight.links)
    (waits : next tight.plan root ≡ None) (most : ℕ) (potentials : PotentialParts)
    (raised : potentials ≡ record { u = slice_set tight.potentials.u root most; v = tight.potentials.v })
    (covers : Covers (links_in tight.links) potentials root) (claims : ClaimsParts)
    (cleared : claims ≡ record { at = replicate (length tight.claims.at) None; order = [] })
    (nears : List (Option Near)) (forgotten : nears ≡ replicate (length tight.nears) None) where
  abbrev planted : TreeParts
  planted = record {
    links = tight.links;
    plan = tight.plan;
    potentials = potentials;
    claims = claims;
    nears = nears;
    root = root;
  }

  unclaimed : claims ≡ record { at = replicate (length tight.links + 1) None; order = [] }
  unclaimed = cleared ∙ ap (λ n. record { at = replicate n None; order = [] }) is.places

  unseen : nears ≡ replicate (length tight.links + 1) None
  unseen = forgotten ∙ ap (λ n. replicate n no_near) is.near_each

  pub is_planted : IsTree planted
  is_planted = record {
    sound = is.sound;
    growing = started (links_in tight.links) tight.potentials tight.plan root is.taken waits within most
        potentials raised covers claims unclaimed;
    near_each = ap length unseen ∙ length-replicate (length tight.links + 1) no_near;
  }

  pub is_rooted : IsRooted tight root planted
  is_rooted = record {
    links = refl;
    root_is = refl;
    bare = record { unclaimed = unclaimed; unseen = unseen };
    kept = kept_now (links_in tight.links) tight.potentials tight.plan root is.taken waits within most
        potentials raised covers;
  }

-- a tree at its end
module _ (tree : TreeParts) (is : IsTree tree) (end : ℕ × Member) (at_end : IsEnd tree end) (claims : ClaimsParts)
    (claimed : claims ≡ with_claim tree.claims end.0 end.1) where
  pub can_be_handed : AreClaims tree.claims
      → IsFound (looking (links_in tree.links) tree.potentials tree.plan tree.root) tree.plan claims end.0
  can_be_handed ordered = subst (λ c. IsFound (looking (links_in tree.links) tree.potentials tree.plan tree.root)
      tree.plan c end.0) (sym claimed)
      (found tree is ordered end.0 end.1 at_end.reached at_end.free)

  module _ (plan : List (Option ℕ)) (handed : IsHandedOn
      (looking (links_in tree.links) tree.potentials tree.plan tree.root) claims tree.plan plan) where
    abbrev augmented : PlanParts
    augmented = record {
      links = tree.links;
      plan = plan;
      potentials = tree.potentials;
      claims = claims;
      nears = tree.nears;
    }

    pub is_tight : IsTightPlan augmented
    is_tight = record {
      sound = is.sound;
      taken = taken_more (links_in tree.links) tree.potentials tree.root tree.claims claims tree.plan plan
          is.growing handed;
      places = ap (λ (c : ClaimsParts). length c.at) claimed ∙ length-set tree.claims.at end.0 _ ∙ is.growing.places;
      near_each = is.near_each;
    }

    pub is_augmented : IsAugmented tree augmented
    is_augmented = grind (arith, member_covered, root_inside)

-- so one trip more is taken in
pub takes_in : (tight : PlanParts) (trip : ℕ) (tree grown : TreeParts) (after : PlanParts)
    → IsRooted tight trip tree → AreOverOne tree grown
    → StillCovers (links_in tree.links) tree.potentials grown.potentials
    → IsAugmented grown after → TakesIn tight trip after
takes_in tight trip tree grown after rooted one kept is = grind arith

-- what holds of each value that is made
pub ok_each : {T E : Type 0} (P Q : T → Type 0) (result : Result T E) → ((x : T) → P x → Q x) → IfOk result P
    → IfOk result Q
ok_each P Q (Ok x) each is = each x is
ok_each P Q (Err end) each is = tt
