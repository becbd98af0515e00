-- The places that can be claimed, as they are claimed, put back, and taken out.
use Rattle.plan_num.proofs.Common.{◌≡◌, ◌≢◌, ℕ, ◌+◌, ◌<◌, true, false, is_some, Contains, List}
use Rattle.plan_num.proofs.Common.{length, Option, Some, None, ap, sym, ◌∙◌, subst, arith}
use Rattle.plan_num.proofs.Common.{get_or-set_same, get_or-set_other, inl, inr, cases_Bool}
use Rattle.plan_num.proofs.Common.{false≢true, get_or_default_zero, AllPairs-from_increasing}
use Rattle.plan_num.proofs.Common.{Contains-get_or, slice_get_within}
use Rattle.bit_rows.proofs.CommonColumns.{common_all, common_rise, common_sound}
use Rattle.bit_rows.specs.Bits.{Bits, common, has}
use Rattle.link_plans.proofs.Common.{at, some_of, by_number, next}
use Rattle.plan_search.specs.declared.claim.Claim.{Claim}
use Rattle.assignment.specs.Choices.{AgreeBefore, ArePlaces, AreRight, IsUndecided}
use Rattle.assignment.specs.ClaimablePlaces.{AreClaimable, ArePutBack, IsPut, IsTakenOut}
use Rattle.plan_search.specs.Claims.{ClaimsParts, claim_at}
use Rattle.plan_search.specs.Searches.{Search}
use Rattle.assignment.proofs.Claimed.{with_claim}

-- the common columns of two rows
pub common_places : (rows : Bits) (row : ℕ) (places : Bits) (found : List ℕ)
    → found ≡ common rows row places 0
    → ArePlaces (λ place. (has rows row place ≡ true) × (has places 0 place ≡ true)) rows.columns
    found
common_places rows row places found is = subst
    (ArePlaces (λ place. (has rows row place ≡ true) × (has places 0 place ≡ true)) rows.columns)
    (sym is) (record {
      rising = λ k m before bound.
          AllPairs-from_increasing _ (common_rise rows row places 0) k m 0 before bound;
      right = λ k bound. (sound k bound).1;
      within = λ k bound. (sound k bound).0;
      all = λ place bound h. there place (common_all rows row places 0 place bound h.0 h.1);
    })
  where
    sound : (k : ℕ) → k < length (common rows row places 0)
        → (at (common rows row places 0) k < rows.columns)
        × ((has rows row (at (common rows row places 0) k) ≡ true)
        × (has places 0 (at (common rows row places 0) k) ≡ true))
    sound k bound =
        let h = common_sound rows row places 0 (at (common rows row places 0) k)
        (Contains-get_or (common rows row places 0) k 0 bound) in
        (h.0, (h.1, h.2))

    there : (place : ℕ) → Contains (common rows row places 0) place
        → (k : ℕ) × ((k < length (common rows row places 0))
        × (at (common rows row places 0) k ≡ place))
    there place (k, within, is) =
        (k, (within, sym (get_or_default_zero (common rows row places 0) k place within) ∙ is))

-- places for which the same holds
pub places_as : (P Q : ℕ → Type 0) (below more : ℕ) (places : List ℕ) → below ≡ more
    → ((place : ℕ) → P place → Q place) → ((place : ℕ) → place < more → Q place → P place)
    → ArePlaces P below places → ArePlaces Q more places
places_as P Q below more places same to back are = grind arith

-- one place is claimed
pub claimable_less : (count low : ℕ) (plan : List (Option ℕ)) (claims : ClaimsParts)
    (before after : Bits) (place : ℕ) (found : Claim)
    → AreClaimable count low plan claims before → place < length claims.at
    → IsPut before after 0 place false
    → AreClaimable count low plan (with_claim claims place found) after
claimable_less count low plan claims before after place found are inside put = record {
  rows = put.rows ∙ are.rows;
  columns = put.columns ∙ are.columns;
  undecided = λ c h. are.undecided c (was c h);
  unclaimed = λ c h. get_or-set_other claims.at place c (Some found) None (apart c h)
      ∙ are.unclaimed c (was c h);
  all = λ c bound undecided none. by_number c place
      (λ same. ap is_some (ap (claim_at (with_claim claims place found)) same
      ∙ get_or-set_same claims.at place (Some found) None inside))
      (λ other. ap is_some (get_or-set_other claims.at place c (Some found) None other)
      ∙ are.all c bound undecided (sym (kept c other) ∙ none));
}
  where
    kept : (c : ℕ) → c ≢ place → has after 0 c ≡ has before 0 c
    kept c other = put.others 0 c (omega (arith, are.rows)) (λ _. other)

    apart : (c : ℕ) → has after 0 c ≡ true → c ≢ place
    apart c h same = false≢true (sym put.here ∙ ap (has after 0) (sym same) ∙ h)

    was : (c : ℕ) → has after 0 c ≡ true → has before 0 c ≡ true
    was c h = sym (kept c (apart c h)) ∙ h

-- ---- from one trip to the next

-- what is taken out
taken_out : (next : Option ℕ) (before after : Bits) → IsTakenOut next before after
    → before.rows ≡ 1
    → (after.rows ≡ before.rows) × (after.columns ≡ before.columns)
    × ((c : ℕ) → has after 0 c ≡ true → (has before 0 c ≡ true) × (next ≡ Some c → ⊥))
    × ((c : ℕ) → has before 0 c ≡ true → (next ≡ Some c → ⊥) → has after 0 c ≡ true)
taken_out None before after same rows = grind arith
taken_out (Some place) before after put rows = grind arith

module _ (search : Search) (plan after : List (Option ℕ)) (claims none : ClaimsParts)
    (before back left : Bits) (first : search.low ≡ search.trip)
    (right : AreRight search plan claims)
    (are : AreClaimable search.links.count search.low plan claims before)
    (put : ArePutBack claims.order (length claims.order) before back)
    (same : AgreeBefore search.trip plan after)
    (taken : IsTakenOut (next after search.trip) back left)
    (free : (place : ℕ) → claim_at none place ≡ None) where
  -- all undecided places are put back
  back_undecided : (place : ℕ) → has back 0 place ≡ true → IsUndecided plan search.low place
  back_undecided place h = grind arith

  back_all : (place : ℕ) → place < search.links.count + 1 → IsUndecided plan search.low place
      → has back 0 place ≡ true
  back_all place within undecided = elim (cases_Bool (has before 0 place)) [
    | inl was ↦ put.kept place was
    | inr was ↦
        let found = some_of (claim_at claims place) (are.all place within undecided was) in
        let at_step = right.placed place found.0 found.1 in
        put.back found.0.step place (slice_get_within claims.order found.0.step place at_step)
        at_step
  ]

  -- those that are undecided behind the trip
  later : (place : ℕ) → IsUndecided plan search.low place
      → (next after search.trip ≡ Some place → ⊥) → IsUndecided after (search.trip + 1) place
  later place undecided apart i e = grind arith

  earlier : (place : ℕ) → IsUndecided after (search.trip + 1) place
      → IsUndecided plan search.low place
  earlier place undecided i e = grind arith

  pub claimable_next : AreClaimable search.links.count (search.trip + 1) after none left
  claimable_next = grind (arith, taken_out, later, back_undecided, false≢true, back_all, earlier)

-- at first all places can be claimed
pub claimable_first : (count : ℕ) (plan : List (Option ℕ)) (none : ClaimsParts) (places : Bits)
    → ((place : ℕ) → claim_at none place ≡ None) → places.rows ≡ 1 → places.columns ≡ count + 1
    → ((place : ℕ) → place < count + 1 → has places 0 place ≡ true)
    → AreClaimable count 0 plan none places
claimable_first count plan none places free rows columns all = grind arith
