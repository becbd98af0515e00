-- Potentials of a tree that are shifted: it stays one, and each place without a claim is nearer.
use Rattle.plan_num.proofs.Common.{◌≡◌, ◌≢◌, ◌⊎◌, ℕ, ℤ, pos, negsuc, ◌<◌, ◌≤◌, ◌+◌, ◌-◌, ◌||◌}
use Rattle.plan_num.proofs.Common.{nat_lt, nat_eq, is_some, Bool, true, false, cond, List, length}
use Rattle.plan_num.proofs.Common.{get_or, Option, Some, None, option_map, MatchOption, IfSome}
use Rattle.plan_num.proofs.Common.{refl, ap, sym, ◌∙◌, subst, arith, eq-eqb, get_or-eq_default}
use Rattle.plan_num.proofs.Common.{false≢true, ne_eqb, ltb-true, ltb-false, none-some, same_Some}
use Rattle.link_plans.proofs.Common.{next, is_next, Links, by_number, not_next, PotentialParts, at}
use Rattle.link_plans.proofs.Common.{by_bound, worth, slack_of, slack_to, has_next}
use Rattle.plan_search.specs.declared.claim.Claim.{Claim}
use Rattle.plan_search.specs.declared.near.Near.{Near}
use Rattle.plan_search.specs.Claims.{ClaimsParts, claim_at}
use Rattle.plan_search.specs.Growing.{links_from, looking, is_placed, StillCovers, is_claimed}
use Rattle.plan_search.specs.Growing.{is_claimed_at, in_tree, moved_near, shifted, IsFrom, IsNear}
use Rattle.plan_search.specs.Growing.{AreNear, IsTreeClaim, IsGrowing, AreShifted}
use Rattle.plan_search.specs.Searches.{IsTightAt, IsTightBy, IsTightBut, ComesFrom, AreClaimsBefore}
use Rattle.plan_num.proofs.Tests.{or_true}

-- ---- the links from some trips

pub gain_of_some : (links : Links) (some : ℕ → Bool) (i j : ℕ) (gain : ℤ)
    → (links_from links some).gain i j ≡ Some gain → (some i ≡ true) × (links.gain i j ≡ Some gain)
gain_of_some links some i j gain e = grind (arith, none-some)

pub some_gain : (links : Links) (some : ℕ → Bool) (i j : ℕ) → some i ≡ true
    → (links_from links some).gain i j ≡ links.gain i j
some_gain links some i j is = ap (λ b. cond b (links.gain i j) None) is

pub placed_next : (trip : ℕ) (plan : List (Option ℕ)) (i j : ℕ) → next plan i ≡ Some j
    → is_placed trip plan i ≡ true
placed_next trip plan i j e = ap (λ it. nat_eq i trip || is_some it) e ∙ or_true (nat_eq i trip)

pub placed_is : (trip : ℕ) (plan : List (Option ℕ)) (i : ℕ) → is_placed trip plan i ≡ true
    → (i ≡ trip) ⊎ ((j : ℕ) × (next plan i ≡ Some j))
placed_is trip plan i e = grind (arith, by_number, is_some, ne_eqb, false≢true)

-- ---- what a link is worth

pub pos_worth : (at_j : Option ℤ) (n : ℕ) → worth at_j ≡ Some n → at_j ≡ Some (pos n)
pos_worth None n e = absurd (none-some n e)
pos_worth (Some (pos m)) n e = ap (λ k. Some (pos k)) (same_Some m n e)
pos_worth (Some (negsuc m)) n e = absurd (none-some n e)

-- ---- the slack at a place

module _ (links : Links) (potentials : PotentialParts) (i place : ℕ) where
  pub slack_inside : place < links.count → slack_to links potentials i place
      ≡ slack_of (at potentials.u i + at potentials.v place) (worth (links.gain i place))
  slack_inside within = grind (arith, nat_lt, ltb-false)

  pub slack_past : links.count ≤ place → slack_to links potentials i place ≡ Some (at potentials.u i)
  slack_past past = grind (arith, nat_lt, ltb-true)

-- a slack of a link, by what it is worth
pub slack_is : (links : Links) (potentials : PotentialParts) (i place gain : ℕ) → place < links.count
    → worth (links.gain i place) ≡ Some gain
    → slack_to links potentials i place ≡ Some (at potentials.u i + at potentials.v place - gain)
slack_is links potentials i place gain within e = slack_inside links potentials i place within
    ∙ ap (slack_of (at potentials.u i + at potentials.v place)) e

-- ---- trips of the tree

module _ (trip : ℕ) (plan : List (Option ℕ)) (claims : ClaimsParts) where
  pub tree_trip : in_tree trip plan claims trip ≡ true
  tree_trip = ap (λ b. b || is_claimed_at claims (next plan trip)) (eq-eqb trip trip refl)

  pub tree_next : (i : ℕ) → i ≢ trip → in_tree trip plan claims i ≡ is_claimed_at claims (next plan i)
  tree_next i apart = ap (λ b. b || is_claimed_at claims (next plan i)) (ne_eqb i trip apart)

  -- a trip with a place is in the tree where its place is claimed
  pub tree_linked : (i j : ℕ) → i ≢ trip → next plan i ≡ Some j
      → in_tree trip plan claims i ≡ is_claimed claims j
  tree_linked i j apart e = tree_next i apart ∙ ap (is_claimed_at claims) e

  -- a trip of the tree looks for a place, or has a claimed one
  pub tree_is : (i : ℕ) → in_tree trip plan claims i ≡ true
      → (i ≡ trip) ⊎ ((j : ℕ) × ((next plan i ≡ Some j) × (is_claimed claims j ≡ true)))
  tree_is i e = grind (arith, by_number, tree_next, false≢true)

-- a claimed place has a claim
pub claim_there : (claims : ClaimsParts) (place : ℕ) → is_claimed claims place ≡ true
    → (found : Claim) × (claim_at claims place ≡ Some found)
claim_there claims place e = grind (arith, is_some, false≢true)

pub is_open : (claims : ClaimsParts) (place : ℕ) → is_claimed claims place ≡ false
    → claim_at claims place ≡ None
is_open claims place e = grind (arith, is_some, false≢true)

-- ---- a tree

module _ (links : Links) (potentials : PotentialParts) (trip : ℕ) (plan : List (Option ℕ)) (claims : ClaimsParts)
    (is : IsGrowing links potentials trip plan claims) where
  -- trips of the tree look for a place or have one
  pub tree_placed : (i : ℕ) → in_tree trip plan claims i ≡ true → is_placed trip plan i ≡ true
  tree_placed i e = grind arith

  -- and are there
  pub tree_inside : (i : ℕ) → in_tree trip plan claims i ≡ true → i < links.count
  tree_inside i e = grind (arith, tree_is, has_next)

  -- claimed places are those of trips
  pub claimed_inside : (place : ℕ) → is_claimed claims place ≡ true → place < links.count
  claimed_inside place e =
      let found = claim_there claims place e in
      let tree = is.tree place found.0 found.1 in grind arith

  -- the place behind all trips is not claimed
  pub last_open : claim_at claims links.count ≡ None
  last_open = grind (arith, claimed_inside, is_open)

  module _ (nears : List (Option Near)) (are : AreNear links potentials trip plan claims nears) (slack : ℕ)
      (least : (place : ℕ) → place < length nears → claim_at claims place ≡ None
      → IfSome (get_or nears place None) (λ it. slack ≤ it.slack)) where
    -- the slack of each trip of the tree at a place without a claim is no less
    pub slack_least : (i place known : ℕ) → in_tree trip plan claims i ≡ true → place < links.count + 1
        → claim_at claims place ≡ None → slack_to links potentials i place ≡ Some known → slack ≤ known
    slack_least i place known e within free at_place = grind (arith, get_or, none-some)

    -- so is its potential
    pub tree_least : (i : ℕ) → in_tree trip plan claims i ≡ true → slack ≤ at potentials.u i
    tree_least i e = slack_least i links.count (at potentials.u i) e (omega arith) last_open
        (slack_past links potentials i links.count (omega arith))

    -- ---- after the shift

    module _ (after : PotentialParts) (shift : AreShifted trip plan claims slack links.count potentials after) where
      u_in : (i : ℕ) → i < links.count → in_tree trip plan claims i ≡ true
          → at after.u i ≡ at potentials.u i - slack
      u_in i within e = shift.u i within
          ∙ ap (λ b. cond b (at potentials.u i - slack) (at potentials.u i)) e

      u_out : (i : ℕ) → i < links.count → in_tree trip plan claims i ≡ false
          → at after.u i ≡ at potentials.u i
      u_out i within e = shift.u i within
          ∙ ap (λ b. cond b (at potentials.u i - slack) (at potentials.u i)) e

      v_in : (j : ℕ) → j < links.count → is_claimed claims j ≡ true
          → at after.v j ≡ at potentials.v j + slack
      v_in j within e = shift.v j within
          ∙ ap (λ b. cond b (at potentials.v j + slack) (at potentials.v j)) e

      v_out : (j : ℕ) → j < links.count → is_claimed claims j ≡ false
          → at after.v j ≡ at potentials.v j
      v_out j within e = shift.v j within
          ∙ ap (λ b. cond b (at potentials.v j + slack) (at potentials.v j)) e

      -- what two potentials are after the shift, by whether the trip and the place are of the tree
      record AreMoved (i j : ℕ) : Type 0 where
        both : in_tree trip plan claims i ≡ true → is_claimed claims j ≡ true
            → at after.u i + at after.v j ≡ at potentials.u i + at potentials.v j
        near : in_tree trip plan claims i ≡ true → is_claimed claims j ≡ false
            → at after.u i + at after.v j ≡ at potentials.u i + at potentials.v j - slack
        far : in_tree trip plan claims i ≡ false → is_claimed claims j ≡ true
            → at after.u i + at after.v j ≡ at potentials.u i + at potentials.v j + slack
        none : in_tree trip plan claims i ≡ false → is_claimed claims j ≡ false
            → at after.u i + at after.v j ≡ at potentials.u i + at potentials.v j

      moved : (i j : ℕ) → i < links.count → j < links.count → AreMoved i j
      moved i j from to = grind (arith, u_in, v_in, tree_least, v_out, u_out)

      -- a link is worth something only between trips that are there
      module _ (inside : (i j : ℕ) → is_some (links.gain i j) ≡ true → (i < links.count) × (j < links.count)) where
        worth_inside : (i j gain : ℕ) → worth (links.gain i j) ≡ Some gain
            → (i < links.count) × (j < links.count)
        worth_inside i j gain e = inside i j (ap is_some (pos_worth (links.gain i j) gain e))

        -- the potentials still cover what they covered
        pub covered_after : StillCovers links potentials after
        covered_after i was j = grind (arith, worth_inside, moved, slack_least, is_open, slack_is)

        -- a trip of the tree has as much less as its place has more
        linked_same : (i j : ℕ) → next plan i ≡ Some j
            → at after.u i + at after.v j ≡ at potentials.u i + at potentials.v j
        linked_same i j e = split (is_claimed claims j) refl
          where
            apart : i ≢ trip
            apart same = none-some j (sym is.waits ∙ ap (next plan) (sym same) ∙ e)

            there : AreMoved i j
            there = moved i j (omega (arith, has_next plan i j e, is.tight.each)) (is.tight.within i j e)

            split : (b : Bool) → is_claimed claims j ≡ b
                → at after.u i + at after.v j ≡ at potentials.u i + at potentials.v j
            split true f = there.both (tree_linked trip plan claims i j apart e ∙ f) f
            split false f = there.none (tree_linked trip plan claims i j apart e ∙ f) f

        -- the plan is still tight
        pub tight_after : IsTightBut (looking links after plan trip) links.count plan
        tight_after = record {
          each = is.tight.each;
          within = is.tight.within;
          linked = λ i j e. is.tight.linked i j e ∙ ap (λ n. Some (pos n)) (sym (linked_same i j e));
          once = is.tight.once;
          last = λ i apart e. grind (arith, by_bound, u_out, tree_next, get_or-eq_default);
          first = λ j within apart free. v_out j within (not_claimed j free (is_claimed claims j) refl)
              ∙ is.tight.first j within apart free;
        }
          where
            not_claimed : (j : ℕ) → is_next plan j ≡ false → (b : Bool) → is_claimed claims j ≡ b
                → is_claimed claims j ≡ false
            not_claimed j free false e = e
            not_claimed j free true e =
                let found = claim_there claims j e in
                let tree = is.tree j found.0 found.1 in
                absurd (not_next plan tree.owner j free tree.owns)

        -- and the claims are some
        pub claims_after : AreClaimsBefore (looking links after plan trip) plan claims (length claims.order)
        claims_after place found e less =
            let was = is.claims_are place found e less in
            record {
              tight = subst (IsTightBy (links_from links (is_placed trip plan)) after place) (sym tree.by_is)
                  (tight_by (subst (IsTightBy (links_from links (is_placed trip plan)) potentials place)
                  tree.by_is was.tight));
              movable = was.movable;
              from = from_after found.from was.from;
            }
          where
            tree : IsTreeClaim trip plan claims place found
            tree = is.tree place found e

            claimed : is_claimed claims place ≡ true
            claimed = ap is_some e

            tight_by : IsTightAt (links_from links (is_placed trip plan)) potentials tree.by place
                → IsTightAt (links_from links (is_placed trip plan)) after tree.by place
            tight_by was = record {
              linked = λ within. was.linked within ∙ ap (λ n. Some (pos n))
                  (sym ((moved tree.by place (tree_inside tree.by tree.inside) within).both tree.inside claimed));
              last = λ past. absurd (omega (arith, past, claimed_inside place claimed));
            }

            from_after : (it : Option ℕ)
                → MatchOption it (found.by ≡ Some trip)
                (λ from. ComesFrom (looking links potentials plan trip) plan claims found from)
                → MatchOption it (found.by ≡ Some trip)
                (λ from. ComesFrom (looking links after plan trip) plan claims found from)
            from_after None own = own
            from_after (Some from) comes = grind arith

        pub growing_after : IsGrowing links after trip plan claims
        growing_after = record {
          over = shift.over;
          within = is.within;
          places = is.places;
          tight = tight_after;
          waits = is.waits;
          covered = λ i placed. covered_after i (is.covered i placed);
          claims_are = claims_after;
          tree = is.tree;
        }

        -- the slack of a trip of the tree at a place without a claim is less by the shift
        slack_after : (i place : ℕ) → in_tree trip plan claims i ≡ true → place < links.count + 1
            → claim_at claims place ≡ None
            → slack_to links after i place ≡ option_map (λ known. known - slack) (slack_to links potentials i place)
        slack_after i place e within free = grind (
          arith,
          by_bound,
          slack_past,
          u_in,
          tree_inside,
          option_map,
          is_some,
          slack_is,
          moved,
          tree_least,
        )

        -- so the nearest trips are those that were
        pub nears_after : (now : List (Option Near)) → length now ≡ length nears
            → ((place : ℕ) → place < length nears
            → get_or now place None ≡ shifted (claim_at claims place) slack (get_or nears place None))
            → AreNear links after trip plan claims now
        nears_after now each told = record {
          each = each ∙ are.each;
          near = λ place within free. subst (IsNear links after (in_tree trip plan claims) place)
              (sym (told place (omega (arith, within, are.each))
              ∙ ap (λ claim. shifted claim slack (get_or nears place None)) free))
              (near_after place within free (get_or nears place None) refl (are.near place within free));
          from = λ place near free e. from_at place near free (place_there place near e) e
              (get_or nears place None) refl;
        }
          where
            by_tree : (place : ℕ) (near : Near) → place < links.count + 1 → claim_at claims place ≡ None
                → get_or nears place None ≡ Some near → in_tree trip plan claims near.by ≡ true
            by_tree place near within free e = grind (arith, tree_trip, tree_linked)

            near_after : (place : ℕ) → place < links.count + 1 → claim_at claims place ≡ None
                → (it : Option Near) → get_or nears place None ≡ it
                → IsNear links potentials (in_tree trip plan claims) place it
                → IsNear links after (in_tree trip plan claims) place (option_map (moved_near slack) it)
            near_after place within free None is_it none = grind (arith, slack_after, option_map)
            near_after place within free (Some near) is_it nearest =
                grind (arith, slack_after, by_tree, option_map)

            place_there : (place : ℕ) (near : Near) → get_or now place None ≡ Some near → place < length nears
            place_there place near e = grind (arith, by_bound, none-some, get_or-eq_default)

            from_at : (place : ℕ) (near : Near) → claim_at claims place ≡ None → place < length nears
                → get_or now place None ≡ Some near → (it : Option Near) → get_or nears place None ≡ it
                → IsFrom trip plan claims near.by near.from
            from_at place near free within e None is_it = grind (arith, none-some)
            from_at place near free within e (Some old) is_it = grind arith
