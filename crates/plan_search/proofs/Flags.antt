-- Flags that tell which places are claimed.
use Rattle.plan_num.proofs.Common.{◌≡◌, ℕ, zero, suc, ◌<◌, ◌≤◌, ◌+◌, true, false, is_some, Bool}
use Rattle.plan_num.proofs.Common.{List, [], ◌∷◌, ◌++◌, length, get_or, slice_get, slice_set}
use Rattle.plan_num.proofs.Common.{replicate, Option, Some, None, refl, ap, sym, ◌∙◌, arith}
use Rattle.plan_num.proofs.Common.{get_or-set_same, get_or-set_other, length-set, length-replicate}
use Rattle.plan_num.proofs.Common.{none-some, same_Some, slice_get_within}
use Rattle.link_plans.proofs.Common.{by_number}
use Rattle.plan_search.specs.declared.claim.Claim.{Claim}
use Rattle.plan_search.specs.Claims.{ClaimsParts, claim_at, AreFlagged}
use Rattle.plan_search.proofs.ClaimLists.{all_none, claimed_more, no_claims, none_at}

all_unset : (flags : List Bool) → ((i : ℕ) → i < length flags → get_or flags i false ≡ false)
    → flags ≡ replicate (length flags) false
all_unset [] none = refl
all_unset (flag ∷ flags) none = ap (λ first. first ∷ flags) (none 0 (omega arith))
    ∙ ap (λ rest. false ∷ rest) (all_unset flags (λ i h. none (suc i) (omega (arith, h))))

unset_at : (n i : ℕ) → get_or (replicate n false) i false ≡ false
unset_at zero i = refl
unset_at (suc n) zero = refl
unset_at (suc n) (suc i) = unset_at n i

-- no place is claimed
pub none_flagged : (n : ℕ) → AreFlagged (record { at = replicate n None; order = [] }) (replicate n false)
none_flagged n = grind (arith, no_claims, length-replicate, unset_at, is_some, none_at)

-- what a flag tells
pub flag_there : (claims : ClaimsParts) (flags : List Bool) (place : ℕ) → AreFlagged claims flags
    → get_or flags place false ≡ is_some (claim_at claims place)
flag_there claims flags place are = are.flag place

-- one place more is claimed
pub flagged_more : (claims : ClaimsParts) (flags : List Bool) → AreFlagged claims flags → (place : ℕ) (found : Claim)
    → place < length claims.at → claim_at claims place ≡ None → found.step ≡ length claims.order
    → (order : List ℕ) → order ≡ claims.order ++ place ∷ []
    → AreFlagged (record { at = slice_set claims.at place (Some found); order = order }) (slice_set flags place true)
flagged_more claims flags are place found inside open_place step order is = record {
  claims_are = claimed_more claims are.claims_are place found inside open_place step order is;
  each = length-set flags place true ∙ are.each ∙ sym (length-set claims.at place (Some found));
  flag = λ other. grind (
    arith,
    by_number,
    get_or,
    slice_set,
    get_or-set_same,
    is_some,
    get_or-set_other,
  );
}

-- the claims that stand in an order from a step on are left
pub record AreLeft (size : ℕ) (order : List ℕ) (step : ℕ) (claims : List (Option Claim))
    (flags : List Bool) : Type 0 where
  pub each : length claims ≡ size
  pub flags_each : length flags ≡ size
  pub flag : (place : ℕ) → get_or flags place false ≡ is_some (get_or claims place None)
  pub later : (place : ℕ) (found : Claim) → get_or claims place None ≡ Some found
      → (step ≤ found.step) × (slice_get order found.step ≡ Some place)

-- one of them is taken back
pub left_more : (size : ℕ) (order : List ℕ) (step place : ℕ) (claims : List (Option Claim))
    (flags : List Bool) → AreLeft size order step claims flags → slice_get order step ≡ Some place → place < size
    → AreLeft size order (step + 1) (slice_set claims place None) (slice_set flags place false)
left_more size order step place claims flags are at_step inside = record {
  each = length-set claims place None ∙ are.each;
  flags_each = length-set flags place false ∙ are.flags_each;
  flag = λ other. grind (
    arith,
    by_number,
    get_or,
    slice_set,
    get_or-set_same,
    is_some,
    get_or-set_other,
  );
  later = λ other found e. by_number other place
      (λ here. absurd (none-some found (sym (gone other here) ∙ e)))
      (λ apart.
      let old = are.later other found
      (sym (get_or-set_other claims place other None None apart) ∙ e) in
      by_number found.step step
      (λ same. absurd (apart (same_Some other place
      (sym old.1 ∙ ap (slice_get order) same ∙ at_step))))
      (λ past. (omega (arith, old.0, past), old.1)));
}
  where
    gone : (other : ℕ) → other ≡ place → get_or (slice_set claims place None) other None ≡ None
    gone other here = grind (arith, get_or, slice_set, get_or-set_same)

-- in the end none is
pub left_none : (size : ℕ) (order : List ℕ) (step : ℕ) (claims : List (Option Claim))
    (flags : List Bool) → AreLeft size order step claims flags → length order ≤ step
    → (claims ≡ replicate size None) × (flags ≡ replicate size false)
left_none size order step claims flags are past = (
  all_none claims (λ place _. none place (get_or claims place None) refl)
      ∙ ap (λ n. replicate n None) are.each,
  all_unset flags (λ place _. are.flag place
      ∙ ap is_some (none place (get_or claims place None) refl))
      ∙ ap (λ n. replicate n false) are.flags_each,
)
  where
    none : (place : ℕ) (claim : Option Claim) → get_or claims place None ≡ claim
        → get_or claims place None ≡ None
    none place None e = e
    none place (Some found) e =
        let old = are.later place found e in grind (arith, slice_get_within)
