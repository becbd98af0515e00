-- Claims and the order in which they were made.
use Rattle.plan_num.proofs.Common.{◌≡◌, ◌⊎◌, inl, inr, ℕ, zero, suc, ◌<◌, ◌+◌, List, [], ◌∷◌, ◌++◌}
use Rattle.plan_num.proofs.Common.{length, sum_by, get_or, slice_get, slice_set, replicate, Option}
use Rattle.plan_num.proofs.Common.{Some, None, refl, ap, sym, ◌∙◌, subst, arith, get_or-set_same}
use Rattle.plan_num.proofs.Common.{get_or-set_other, length-set, length-replicate, length_push}
use Rattle.plan_num.proofs.Common.{sum_by-set, none-some, same_Some}
use Rattle.std.proofs.lemmas.List.Folds.{sum_by-replicate}
use Rattle.link_plans.proofs.Common.{by_number}
use Rattle.plan_search.specs.declared.claim.Claim.{Claim}
use Rattle.plan_search.specs.Claims.{ClaimsParts, claim_at, one_if_open, AreClaims}

pub none_at : (n i : ℕ) → claim_at (record { at = replicate n None; order = [] }) i ≡ None
none_at zero i = refl
none_at (suc n) zero = refl
none_at (suc n) (suc i) = none_at n i

-- a list of nothing but none
pub all_none : {X : Type 0} (xs : List (Option X)) → ((i : ℕ) → i < length xs → get_or xs i None ≡ None)
    → xs ≡ replicate (length xs) None
all_none [] none = refl
all_none (x ∷ xs) none = ap (λ y. y ∷ xs) (none 0 (omega arith))
    ∙ ap (λ rest. None ∷ rest) (all_none xs (λ i h. none (suc i) (omega (arith, h))))

-- no place is claimed
pub no_claims : (n : ℕ) → AreClaims (record { at = replicate n None; order = [] })
no_claims n = grind (arith, none-some, none_at, sum_by-replicate, length-replicate)

get_pushed : (xs : List ℕ) (x i y : ℕ) → slice_get (xs ++ x ∷ []) i ≡ Some y
    → ((i ≡ length xs) × (x ≡ y)) ⊎ (slice_get xs i ≡ Some y)
get_pushed [] x zero y e = inl (refl, same_Some x y e)
get_pushed [] x (suc i) y e = absurd (none-some y e)
get_pushed (first ∷ xs) x zero y e = inr e
get_pushed (first ∷ xs) x (suc i) y e = grind (arith, slice_get, get_pushed xs x i y e)

get_last : (xs : List ℕ) (x : ℕ) → slice_get (xs ++ x ∷ []) (length xs) ≡ Some x
get_last [] x = refl
get_last (first ∷ xs) x = get_last xs x

get_sooner : (xs : List ℕ) (x i y : ℕ) → slice_get xs i ≡ Some y → slice_get (xs ++ x ∷ []) i ≡ Some y
get_sooner [] x i y e = absurd (none-some y e)
get_sooner (first ∷ xs) x zero y e = e
get_sooner (first ∷ xs) x (suc i) y e = get_sooner xs x i y e

-- one place more is claimed
module _ (claims : ClaimsParts) (are : AreClaims claims) (place : ℕ) (found : Claim)
    (inside : place < length claims.at) (open_place : claim_at claims place ≡ None)
    (step : found.step ≡ length claims.order) where
  counted_more : length claims.order + 1 + sum_by one_if_open (slice_set claims.at place (Some found))
      ≡ length claims.at
  counted_more = grind (arith, sum_by, slice_set, sum_by-set)

  pub claimed_more : (order : List ℕ) → order ≡ claims.order ++ place ∷ []
      → AreClaims (record { at = slice_set claims.at place (Some found); order = order })
  claimed_more order is = subst
      (λ xs. AreClaims (record { at = slice_set claims.at place (Some found); order = xs })) (sym is)
      (record {
        placed = λ at other e. by_number at place
            (λ here. subst (λ k. slice_get (claims.order ++ place ∷ []) k ≡ Some at)
            (sym step ∙ ap (λ x. x.step) (same_Some found other
            (sym (get_or-set_same claims.at place (Some found) None inside)
            ∙ ap (λ k. get_or (slice_set claims.at place (Some found)) k None) (sym here) ∙ e)))
            (get_last claims.order place ∙ ap Some (sym here)))
            (λ apart. get_sooner claims.order place other.step at
            (are.placed at other (sym (get_or-set_other claims.at place at (Some found) None apart) ∙ e)));
        claimed = λ at other e. grind (arith, get_pushed, slice_set, length-set);
        counted = grind (arith, counted_more, length_push, length-set);
      })

  pub few_claims : length claims.order < length claims.at
  few_claims = omega (arith, counted_more)

-- fewer places are claimed than there are, where one is not
pub few_open : (claims : ClaimsParts) → AreClaims claims → (place : ℕ) → place < length claims.at
    → claim_at claims place ≡ None → length claims.order < length claims.at
few_open claims are place inside open_place = few_claims claims are place
    (record { by = None; from = None; step = length claims.order }) inside open_place refl
