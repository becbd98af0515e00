-- The places that a trip claims, one after another: those before the first that it may have are
-- refused.
use Rattle.plan_num.proofs.Common.{◌≡◌, ℕ, zero, suc, ◌+◌, ◌-◌, ◌<◌, ◌≤◌, true, false, is_some, inl}
use Rattle.plan_num.proofs.Common.{inr, List, [], ◌∷◌, ◌++◌, length, replicate, slice_get, Option}
use Rattle.plan_num.proofs.Common.{Some, None, refl, ap, sym, ◌∙◌, subst, arith, length-append}
use Rattle.plan_num.proofs.Common.{cases_Bool, false≢true, length-replicate, none-some}
use Rattle.link_plans.proofs.Common.{next, by_number, at, by_bound, place_of}
use Rattle.plan_search.specs.declared.claim.Claim.{Claim}
use Rattle.plan_search.specs.Claims.{ClaimsParts, claim_at}
use Rattle.plan_search.specs.Searches.{Search, IsTightBy, IsClaim}
use Rattle.assignment.specs.ClaimablePlaces.{AreClaimable, AreTies, IsPut}
use Rattle.assignment.specs.Choices.{ArePlaces, IsUndecided, is_claimed, AreExpanded, AreRight}
use Rattle.assignment.specs.Choices.{AreMore, AreOthers, IsSearch, IsFirst, IsSought}
use Rattle.assignment.proofs.Claimed.{IsSeeking, with_claim, claims_more, claims_right, at_place, old_or_new, some_is}
use Rattle.bit_rows.specs.Bits.{Bits, has}
use Rattle.assignment.proofs.Claimables.{claimable_less, places_as}
use Rattle.plan_search.proofs.ClaimLists.{none_at}
use Rattle.assignment.proofs.ClaimingAll.{still_claimed}
use Rattle.assignment.proofs.Expanding.{still_expanded}
use Rattle.assignment.proofs.Refused.{inside, refused, other_tight, other_undecided}

-- the trip's claim
pub own_claim_is : (search : Search) (claims got : ClaimsParts) (place trip : ℕ)
    → search.trip ≡ trip
    → got ≡ with_claim claims place
    (record { by = Some trip; from = None; step = length claims.order })
    → got ≡ with_claim claims place
    (record { by = Some search.trip; from = None; step = length claims.order })
own_claim_is search claims got place trip same got_is = grind arith

module _ (search : Search) (plan : List (Option ℕ)) (is : IsSearch search plan) where
  -- ---- one place after another

  module _ (claims : ClaimsParts) (places : List ℕ) (own index : ℕ) (bits : Bits)
      (own_is : own ≡ place_of search.links.count (next plan search.trip))
      (seeking : IsSeeking search plan claims places own index bits) where
    -- its own place is one of the places
    own_most : (to : Option ℕ) → next plan search.trip ≡ to → place_of search.links.count
        to ≤ search.links.count
    own_most None e = omega arith
    own_most (Some j) e = let bound : j < search.links.count = inside search plan is search.trip j e
        in omega (arith, bound)

    -- before the places that are still to be looked at there is none
    nothing_before : (bound : ℕ) → bound ≤ own
        → ((k : ℕ) → k < length places → at places k < bound → k < index)
        → IsFirst search plan bound
    nothing_before bound most seen other fits in_other tight agrees =
        by_bound (place_of search.links.count (next other search.trip)) bound
        (λ before.
        let k = seeking.are.all (place_of search.links.count (next other search.trip))
        (omega (arith, before, most, own_is, own_most (next plan search.trip) refl)) (
          other_tight search plan is other fits in_other tight agrees (next other search.trip) refl,
          other_undecided search plan is other fits in_other tight agrees (next other search.trip) refl,
        )
        in
        let here : at places k.0 < bound = omega (arith, before, k.1.1) in
        absurd (refused search plan is claims seeking.right seeking.expanded
        (subst (λ some. claim_at claims some ≡ None) own_is seeking.free) other fits in_other tight
        agrees
        (subst (λ some. is_claimed claims some ≡ true) k.1.1
        (seeking.before k.0 (seen k.0 k.1.0 here) (omega (arith, here, most))))))
        (λ past. past)

    -- at the end, none before the trip's own
    pub sought_none : length places ≤ index → IsFirst search plan own
    sought_none past = nothing_before own (omega arith) (λ k within h. omega (arith, within, past))

    -- the present one is passed over
    pub seeking_past : own ≤ at places index
        → IsSeeking search plan claims places own (index + 1) bits
    seeking_past past = record {
      right = seeking.right;
      claimable = seeking.claimable;
      are = seeking.are;
      expanded = seeking.expanded;
      free = seeking.free;
      before = λ k bound h. by_number k index
          (λ same. let here : at places k ≡ at places index = ap (at places) same in absurd
          (omega (arith, here, h, past)))
          (λ apart. seeking.before k (omega (arith, bound, apart)) h);
      mine = λ place found e own_claim.
          let k = seeking.mine place found e own_claim in (k.0, (omega (arith, k.1.0), k.1.1));
    }

    -- or it is claimed already
    pub seeking_kept : index < length places → has bits 0 (at places index) ≡ false
        → IsSeeking search plan claims places own (index + 1) bits
    seeking_kept within gone = record {
      right = seeking.right;
      claimable = seeking.claimable;
      are = seeking.are;
      expanded = seeking.expanded;
      free = seeking.free;
      before = λ k bound h. by_number k index
          (λ same. subst (λ i. is_claimed claims (at places i) ≡ true) (sym same)
          (seeking.claimable.all (at places index) (seeking.are.within index within)
          (seeking.are.right index within).1 gone))
          (λ apart. seeking.before k (omega (arith, bound, apart)) h);
      mine = λ place found e own_claim.
          let k = seeking.mine place found e own_claim in (k.0, (omega (arith, k.1.0), k.1.1));
    }

    -- or the trip claims it
    module _ (within : index < length places) (before_own : at places index < own)
        (here : has bits 0 (at places index) ≡ true)
        (few : length claims.order < length claims.at) where
      free : claim_at claims (at places index) ≡ None
      free = seeking.claimable.unclaimed (at places index) here

      undecided : IsUndecided plan search.low (at places index)
      undecided = seeking.claimable.undecided (at places index) here

      -- the claim
      abbrev latest : Claim
      latest = record { by = Some search.trip; from = None; step = length claims.order }

      latest_is : IsClaim search plan claims (at places index) latest
      latest_is = grind arith

      in_places : at places index < length claims.at
      in_places = omega (arith, seeking.are.within index within, seeking.right.places)

      abbrev new : ClaimsParts
      new = with_claim claims (at places index) latest

      -- what it leaves
      new_more : AreMore claims new
      new_more = claims_more search plan claims (at places index) latest seeking.right in_places
          free few undecided refl latest_is

      pub new_right : AreRight search plan new
      new_right = claims_right search plan claims (at places index) latest seeking.right in_places
          free few undecided refl latest_is

      pub new_size : length new.order ≡ length claims.order + 1
      new_size = length-append claims.order (at places index ∷ [])

      pub new_expanded : AreExpanded search plan new (length new.order - 1)
      new_expanded step place bound e =
          let earlier : step < length claims.order = omega (arith, bound, new_size) in
          still_expanded search plan claims new place new_more
          (seeking.expanded step place earlier
          (sym (before_last claims.order (at places index) step earlier) ∙ e))
        where
          before_last : (xs : List ℕ) (x k : ℕ) → k < length xs → slice_get (xs ++ x ∷ [])
              k ≡ slice_get xs k
          before_last [] x k h = absurd (omega (arith, h))
          before_last (y ∷ xs) x zero h = refl
          before_last (y ∷ xs) x (suc k) h = before_last xs x k (omega (arith, h))

      -- no tight plan has an earlier place for the trip
      this_first : IsFirst search plan (at places index)
      this_first = nothing_before (at places index) (omega (arith, before_own))
          (λ k bound h. by_bound k index (λ before. before) (λ past. by_number k index
          (λ same. let here : at places k ≡ at places index = ap (at places) same in grind arith)
          (λ apart. let later : at places index < at places k = seeking.are.rising index k
          (omega (arith, past, apart)) bound in
          absurd (omega (arith, later, h)))))

      -- what it claims itself is a place so far
      mine_now : (after : ClaimsParts) → AreOthers search new after → (place : ℕ) (found : Claim)
          → claim_at after place ≡ Some found → found.by ≡ Some search.trip
          → (k : ℕ) × ((k < index + 1) × (at places k ≡ place))
      mine_now after others place found e own_claim =
          old_or_new search plan claims (at places index) latest seeking.right in_places free few
          undecided refl latest_is
          place found (others place found e own_claim)
          (λ old. let k = seeking.mine place found old own_claim in grind arith)
          (λ same is_found. (index, (omega arith, sym same)))

      -- the trip's own place is claimed with it
      pub sought_one : (after : ClaimsParts) → AreRight search plan after
          → AreOthers search new after
          → is_claimed after own ≡ true → IsSought search plan after own
      sought_one after right others claimed = record {
        right = right;
        claimed = claimed;
        first = λ place found e own_claim other fits in_other tight agrees.
            let k = mine_now after others place found e own_claim in
            let least : at places index ≤ place_of search.links.count (next other search.trip) =
            this_first other fits in_other tight agrees in
            by_number k.0 index
            (λ same. let here : at places k.0 ≡ at places index = ap (at places) same in omega
            (arith, here, k.1.1, least))
            (λ apart. let earlier : at places k.0 < at places index = seeking.are.rising k.0 index
            (omega (arith, k.1.0, apart)) within in
            omega (arith, earlier, k.1.1, least));
      }

      -- or not
      pub seeking_more : (after : ClaimsParts) → AreRight search plan after → AreMore new after
          → AreOthers search new after
          → AreExpanded search plan after (length after.order) → claim_at after own ≡ None
          → (left : Bits) → AreClaimable search.links.count search.low plan after left
          → IsSeeking search plan after places own (index + 1) left
      seeking_more after right more others expanded none left claimable = record {
        right = right;
        claimable = claimable;
        are = seeking.are;
        expanded = expanded;
        free = none;
        before = λ k bound h. still_claimed new after (at places k) more
            (by_number k index
            (λ same. some_is (claim_at new (at places k)) latest
            (ap (λ i. claim_at new (at places i)) same
            ∙ at_place search plan claims (at places index) latest seeking.right in_places free few
            undecided refl latest_is))
            (λ apart. still_claimed claims new (at places k) new_more
            (seeking.before k (omega (arith, bound, apart)) h)));
        mine = mine_now after others;
      }

      -- the same of the claims that a call leaves
      module _ (trip : ℕ) (same : search.trip ≡ trip) (got : ClaimsParts)
          (got_is : got ≡ with_claim claims (at places index)
          (record { by = Some trip; from = None; step = length claims.order })) where
        is_new : got ≡ new
        is_new = own_claim_is search claims got (at places index) trip same got_is

        got_right : AreRight search plan got
        got_right = subst (AreRight search plan) (sym is_new) new_right

        got_some : 0 < length got.order
        got_some = omega (arith, new_size, ap (λ some. length some.order) is_new)

        got_expanded : AreExpanded search plan got (length got.order - 1)
        got_expanded = subst (λ some. AreExpanded search plan some (length some.order - 1))
            (sym is_new) new_expanded

        pub got_sought : (after : ClaimsParts) → AreRight search plan after
            → AreOthers search got after
            → is_claimed after own ≡ true → IsSought search plan after own
        got_sought after right others claimed =
            sought_one after right (subst (λ some. AreOthers search some after) is_new others)
            claimed

        pub got_seeking : (after : ClaimsParts) → AreRight search plan after → AreMore got after
            → AreOthers search got after
            → AreExpanded search plan after (length after.order) → claim_at after own ≡ None
            → (left : Bits) → AreClaimable search.links.count search.low plan after left
            → IsSeeking search plan after places own (index + 1) left
        got_seeking after right more others expanded none =
            seeking_more after right (subst (λ some. AreMore some after) is_new more)
            (subst (λ some. AreOthers search some after) is_new others) expanded none

        got_claimable : (after : Bits) → IsPut bits after 0 (at places index) false
            → AreClaimable search.links.count search.low plan got after
        got_claimable after put = subst
            (λ some. AreClaimable search.links.count search.low plan some after) (sym is_new)
            (claimable_less search.links.count search.low plan claims bits after (at places index)
            latest seeking.claimable in_places put)

        pub got_ready : (after : Bits) → IsPut bits after 0 (at places index) false
            → AreClaimable search.links.count search.low plan got after
            × (AreRight search plan got × ((0 < length got.order)
            × AreExpanded search plan got (length got.order - 1)))
        got_ready after put =
            (got_claimable after put, (got_right, (got_some, got_expanded)))

  -- nothing is claimed at first
  pub seeking_none : (claims : ClaimsParts) (places : List ℕ) (own : ℕ) (bits : Bits)
      → claims ≡ record { at = replicate (search.links.count + 1) None; order = [] }
      → AreClaimable search.links.count search.low plan claims bits
      → ArePlaces (λ place. IsTightBy search.links search.potentials place (Some search.trip)
      × IsUndecided plan search.low place) (search.links.count + 1) places
      → IsSeeking search plan claims places own 0 bits
  seeking_none claims places own bits none_is claimable are =
      grind (arith, IsSeeking, length-replicate, none-some, none_at, undecided, free)

  -- the places at which the trip is tight
  pub ties_of : (ties : Bits) (trip : ℕ) (bits : Bits) (claims : ClaimsParts)
      (found places : List ℕ)
      → AreTies search.links search.potentials ties → search.trip ≡ trip
      → claims ≡ record { at = replicate (search.links.count + 1) None; order = [] }
      → AreClaimable search.links.count search.low plan claims bits
      → places ≡ found
      → ArePlaces (λ place. (has ties trip place ≡ true) × (has bits 0 place ≡ true)) ties.columns
      found
      → ArePlaces (λ place. IsTightBy search.links search.potentials place (Some search.trip)
      × IsUndecided plan search.low place) (search.links.count + 1) places
  ties_of ties trip bits claims found places are same none_is claimable places_are found_are =
      places_as (λ place. (has ties trip place ≡ true) × (has bits 0 place ≡ true))
      (λ place. IsTightBy search.links search.potentials place (Some search.trip)
      × IsUndecided plan search.low place) ties.columns (search.links.count + 1) places are.columns
      (λ place h. (
        ((are.row (Some search.trip) is.within).right place
            (ap (λ i. has ties i place) same ∙ h.0)).1,
        claimable.undecided place h.1,
      ))
      (λ place within h. (
        ap (λ i. has ties i place) (sym same)
            ∙ (are.row (Some search.trip) is.within).all place within h.0,
        there place within h.1,
      ))
      (subst (ArePlaces (λ place. (has ties trip place ≡ true) × (has bits 0 place ≡ true))
      ties.columns) (sym places_are) found_are)
    where
      there : (place : ℕ) → place < search.links.count + 1 → IsUndecided plan search.low place
          → has bits 0 place ≡ true
      there place within undecided = elim (cases_Bool (has bits 0 place)) [
        | inl h ↦ h
        | inr gone ↦ absurd (false≢true (sym (ap is_some (none_at (search.links.count + 1) place))
            ∙ ap (λ some. is_claimed some place) (sym none_is)
            ∙ claimable.all place within undecided gone))
      ]
