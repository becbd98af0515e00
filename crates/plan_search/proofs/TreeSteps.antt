-- What one step of a tree leaves: a look, a shift, a claim, and the end.
use Rattle.plan_num.proofs.Common.{◌≡◌, ℕ, pos, ◌<◌, ◌≤◌, ◌≤ℤ◌, ◌+◌, ◌-◌, true, false, List, length}
use Rattle.plan_num.proofs.Common.{get_or, Option, Some, None, option_map, MatchOption, IfSome}
use Rattle.plan_num.proofs.Common.{refl, ap, sym, ◌∙◌, subst, arith, is_some, get_or-set_same, ints}
use Rattle.plan_num.proofs.Common.{length_push, none-some}
use Rattle.link_plans.proofs.Common.{next, is_next, Links, links_in, PotentialParts, at, Covers}
use Rattle.plan_search.specs.declared.near.Member.{Member}
use Rattle.plan_search.specs.declared.near.Near.{Near}
use Rattle.plan_search.specs.Claims.{claim_at, AreClaims}
use Rattle.plan_search.specs.Growing.{is_claimed, is_placed, in_tree, looking, moved_near, shifted}
use Rattle.plan_search.specs.Growing.{IsFrom, IsNear, AreLooked}
use Rattle.plan_search.specs.Growing.{IsNearestPlace, AreShifted}
use Rattle.plan_search.specs.Searches.{IsFound}
use Rattle.plan_search.specs.Trees.{TreeParts, with_claim, IsTree, IsLooked, IsReached}
use Rattle.plan_search.specs.Trees.{IsLeast, IsShifted, HasGrown}
use Rattle.plan_search.proofs.Claiming.{place_found, grown, nears_grown}
use Rattle.plan_search.proofs.ShiftedTrees.{gain_of_some, slack_past, tree_trip, tree_linked, tree_is}
use Rattle.plan_search.proofs.ShiftedTrees.{tree_placed, tree_inside, claim_there, last_open, tree_least}
use Rattle.plan_search.proofs.ShiftedTrees.{growing_after, covered_after, nears_after}

module _ (tree : TreeParts) (is : IsTree tree) where
  abbrev links : Links
  links = links_in tree.links

  -- ---- looking from a trip

  module _ (by : ℕ) (inside : in_tree tree.root tree.plan tree.claims by ≡ true) where
    pub member_within : by < length tree.links
    member_within = tree_inside links tree.potentials tree.root tree.plan tree.claims is.growing by inside

    pub member_covered : Covers links tree.potentials by
    member_covered = grind (arith, tree_placed)

    -- it leaves the place that it has
    pub member_from : IsFrom tree.root tree.plan tree.claims by (next tree.plan by)
    member_from = grind (arith, tree_is, none-some)

  -- the tree with other slacks
  pub with_nears : (nears : List (Option Near)) → length nears ≡ length tree.nears
      → IsTree (record tree { nears = nears })
  with_nears nears each = grind arith

  -- the root is in the tree
  pub root_inside : in_tree tree.root tree.plan tree.claims tree.root ≡ true
  root_inside = tree_trip tree.root tree.plan tree.claims

  -- ---- shifting

  module _ (looked : IsLooked tree) where
    -- the place behind all trips is always near
    pub never_none : ((place : ℕ) → place < length tree.nears → claim_at tree.claims place ≡ None
        → get_or tree.nears place None ≡ None) → ⊥
    never_none none =
        let free = last_open links tree.potentials tree.root tree.plan tree.claims is.growing in
        grind (arith, none-some, root_inside, slack_past)

    module _ (slack : ℕ) (least : IsLeast tree slack) where
      -- potentials of claimed places stay in their range
      pub small_after : (j : ℕ) → j < length tree.links → is_claimed tree.claims j ≡ true
          → at tree.potentials.v j + slack ≤ 1000000000000000000
      small_after j within e =
          let found = claim_there tree.claims j e in
          let claim = is.growing.tree j found.0 found.1 in
          let gain = (gain_of_some links (is_placed tree.root tree.plan) claim.owner j _
          (is.growing.tight.linked claim.owner j claim.owns)).1 in
          let most : pos (at tree.potentials.u claim.owner + at tree.potentials.v j) ≤ℤ pos 1000000000000 =
          subst (λ it. IfSome it (λ value. value ≤ℤ pos 1000000000000)) gain (is.sound.small claim.owner j) in
          let low : slack ≤ at tree.potentials.u claim.owner =
          tree_least links tree.potentials tree.root tree.plan tree.claims is.growing tree.nears looked slack
          least claim.owner
          (tree_linked tree.root tree.plan tree.claims claim.owner j (λ same. none-some j
          (sym is.growing.waits ∙ ap (next tree.plan) (sym same) ∙ claim.owns)) claim.owns ∙ e) in
          omega (arith, ints, most, low)

      module _ (potentials : PotentialParts) (shift : AreShifted tree.root tree.plan tree.claims slack
          (length tree.links) tree.potentials potentials) where
        pub tree_shifted : (nears : List (Option Near)) → length nears ≡ length tree.nears
            → IsTree (record tree { potentials = potentials; nears = nears })
        tree_shifted nears each = record {
          sound = is.sound;
          growing = growing_after links tree.potentials tree.root tree.plan tree.claims is.growing tree.nears
              looked slack least potentials shift is.sound.within;
          near_each = each ∙ is.near_each;
        }

        pub is_shifted : (nears : List (Option Near)) → length nears ≡ length tree.nears
            → ((place : ℕ) → place < length tree.nears → get_or nears place None
            ≡ shifted (claim_at tree.claims place) slack (get_or tree.nears place None))
            → IsShifted tree slack (record tree { potentials = potentials; nears = nears })
        is_shifted nears each told = record {
          same = refl;
          kept = covered_after links tree.potentials tree.root tree.plan tree.claims is.growing tree.nears
              looked slack least potentials shift is.sound.within;
          looked = nears_after links tree.potentials tree.root tree.plan tree.claims is.growing tree.nears
              looked slack least potentials shift is.sound.within nears each told;
          near_each = each;
          nearer = told;
        }

  -- ---- claiming a place that is reached

  module _ (ordered : AreClaims tree.claims) (place : ℕ) (member : Member) (reached : IsReached tree place member) where
    abbrev near : Near
    near = record { slack = 0; by = member.by; from = member.from }

    -- where no trip has it the tree can be augmented
    pub found : is_next tree.plan place ≡ false
        → IsFound (looking links tree.potentials tree.plan tree.root) tree.plan
        (with_claim tree.claims place member) place
    found free = place_found links tree.potentials tree.root tree.plan tree.claims is.growing ordered place
        reached.within reached.unclaimed near reached.comes reached.slack free

    pub room_left : length tree.claims.order < length tree.claims.at → length tree.claims.order < length tree.links + 1
    room_left few = omega (arith, few, is.growing.places)

    -- or it grows by the trip that has it
    module _ (left : ℕ) (has : next tree.plan left ≡ Some place) where
      pub tree_grown : IsTree (record tree { claims = with_claim tree.claims place member })
      tree_grown = record {
        sound = is.sound;
        growing = grown links tree.potentials tree.root tree.plan tree.claims is.growing ordered place
            reached.within reached.unclaimed near reached.comes reached.slack left has;
        near_each = is.near_each;
      }

      pub left_inside : in_tree tree.root tree.plan (with_claim tree.claims place member) left ≡ true
      left_inside = grind (arith, tree_linked, none-some, is_some, get_or-set_same)

      pub looked_on : IsLooked tree → (now after : TreeParts)
          → now ≡ record tree { claims = with_claim tree.claims place member }
          → after ≡ record now { nears = after.nears } → length after.nears ≡ length now.nears
          → AreLooked (links_in now.links) now.potentials now.claims left (next now.plan left) now.nears after.nears
          → IsLooked after
      looked_on looked now after now_is after_is each told = subst IsLooked
          (sym (after_is ∙ ap (λ (t : TreeParts). record t { nears = after.nears }) now_is))
          (nears_grown links tree.potentials tree.root tree.plan tree.claims is.growing ordered place
          reached.within reached.unclaimed near reached.comes reached.slack left has tree.nears after.nears looked
          (each ∙ ap (λ (t : TreeParts). length t.nears) now_is)
          (subst (λ from. AreLooked links tree.potentials (with_claim tree.claims place member) left from
          tree.nears after.nears) has
          (subst (λ t. AreLooked (links_in t.links) t.potentials t.claims left (next t.plan left) t.nears
          after.nears) now_is told)))

      pub grown_more : (now after : TreeParts) → length tree.claims.order < length tree.links + 1
          → now ≡ record tree { claims = with_claim tree.claims place member }
          → after ≡ record now { nears = after.nears } → HasGrown tree after
      grown_more now after few now_is after_is = grind (arith, length_push)

-- the nearest place is reached after the shift
pub reached_after : (before after : TreeParts) (place : ℕ) (near : Near)
    → IsNearestPlace before.claims before.nears place near → IsShifted before near.slack after
    → IsReached after place (record { by = near.by; from = near.from })
reached_after before after place near best shift = record {
  within = within;
  unclaimed = unclaimed;
  slack = is_near.slack ∙ ap Some (none_left near.slack);
  comes = shift.looked.from place (moved_near near.slack near) unclaimed nearer;
}
  where
    within : place < length after.links + 1
    within = omega (arith, best.within, shift.near_each, shift.looked.each)

    unclaimed : claim_at after.claims place ≡ None
    unclaimed = ap (λ (t : TreeParts). claim_at t.claims place) shift.same ∙ best.open_place

    nearer : get_or after.nears place None ≡ Some (moved_near near.slack near)
    nearer = grind (arith, get_or, option_map)

    is_near : IsNear (links_in after.links) after.potentials (in_tree after.root after.plan after.claims)
        place (Some (moved_near near.slack near))
    is_near = grind arith

    none_left : (n : ℕ) → n - n ≡ 0
    none_left n = omega arith

-- the nearest place, which there always is
pub nearest_is : (tree : TreeParts) → IsTree tree → IsLooked tree → (result : Option (ℕ × Near))
    (nears : List (Option Near))
    → nears ≡ tree.nears
    → MatchOption result
    ((place : ℕ) → place < length tree.nears → claim_at tree.claims place ≡ None
    → get_or tree.nears place None ≡ None)
    (λ best. IsNearestPlace tree.claims tree.nears best.0 best.1)
    → MatchOption result ⊥ (λ best. IsNearestPlace tree.claims nears best.0 best.1)
nearest_is tree is looked None nears same none = never_none tree is looked none
nearest_is tree is looked (Some best) nears same there = grind arith
