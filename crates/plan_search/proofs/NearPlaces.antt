-- The nearest place among those that were looked at.
use Rattle.plan_num.proofs.Common.{◌≡◌, ℕ, ◌<◌, ◌≤◌, ◌+◌, List, length, get_or, replicate, Option}
use Rattle.plan_num.proofs.Common.{Some, None, MatchOption, IfSome, refl, ap, sym, ◌∙◌, subst}
use Rattle.plan_num.proofs.Common.{arith, false≢true, none-some}
use Rattle.link_plans.proofs.Common.{by_number}
use Rattle.plan_search.specs.declared.claim.Claim.{Claim}
use Rattle.plan_search.specs.declared.near.Near.{Near}
use Rattle.plan_search.specs.Claims.{ClaimsParts, claim_at}
use Rattle.plan_search.specs.Growing.{open_near, shifted, IsNearestPlace, IsNearerOf, IsBetter}
use Rattle.plan_search.proofs.ClaimLists.{all_none}
use Rattle.plan_search.proofs.WrittenLists.{IsTold}

-- nothing is near any place
pub forgotten_all : (old now : List (Option Near)) (done : ℕ) → IsTold None (λ i. None) old now done
    → length old ≤ done → now ≡ replicate (length old) None
forgotten_all old now done are past = grind (arith, all_none)

-- without a slack nothing is nearer than it was
pub unmoved : (claim : Option Claim) (slack : ℕ) (near : Option Near) → slack ≡ 0
    → near ≡ shifted claim slack near
unmoved (Some found) slack near none = refl
unmoved None slack None none = refl
unmoved None slack (Some near) none = grind arith

-- the nearest place among the first ones
pub record IsBestBefore (claims : ClaimsParts) (nears : List (Option Near)) (place : ℕ) (at : ℕ)
    (near : Near) : Type 0 where
  pub within : at < place
  pub is : open_near (claim_at claims at) (get_or nears at None) ≡ Some near
  pub least : (other : ℕ) → other < place
      → IfSome (open_near (claim_at claims other) (get_or nears other None)) (λ it. near.slack ≤ it.slack)

abbrev pub IsBest : ClaimsParts → List (Option Near) → ℕ → Option (ℕ × Near) → Type 0
IsBest claims nears place best = MatchOption best
    ((other : ℕ) → other < place → open_near (claim_at claims other) (get_or nears other None) ≡ None)
    (λ found. IsBestBefore claims nears place found.0 found.1)

module _ (claims : ClaimsParts) (nears : List (Option Near)) (place : ℕ) where
  abbrev near_at : ℕ → Option Near
  near_at other = open_near (claim_at claims other) (get_or nears other None)

  -- a place more at which nothing is near
  best_none : (best : Option (ℕ × Near)) → IsBest claims nears place best → near_at place ≡ None
      → IsBest claims nears (place + 1) best
  best_none None are none = grind arith
  best_none (Some found) are none = grind arith

  -- the first place at which something is near
  best_first : (near : Near) → IsBest claims nears place None → near_at place ≡ Some near
      → IsBest claims nears (place + 1) (Some (place, near))
  best_first near are is = grind arith

  -- a nearer one, or not
  best_of : (best found : ℕ × Near) (near : Near) → IsBestBefore claims nears place best.0 best.1
      → near_at place ≡ Some near → IsNearerOf best (place, near) found
      → IsBestBefore claims nears (place + 1) found.0 found.1
  best_of best found near are is nearer = grind (arith, by_number)

  -- one place more
  pub best_more : (best : Option (ℕ × Near)) (near : Option Near) (found : Option (ℕ × Near))
      → IsBest claims nears place best → near ≡ near_at place → IsBetter best place near found
      → IsBest claims nears (place + 1) found
  best_more best None found are is better =
      subst (IsBest claims nears (place + 1)) (sym better) (best_none best are (sym is))
  best_more None (Some near) found are is better =
      subst (IsBest claims nears (place + 1)) (sym better) (best_first near are (sym is))
  best_more (Some best) (Some near) None are is better = absurd (false≢true better.1)
  best_more (Some best) (Some near) (Some found) are is better =
      best_of best found near are (sym is) better.0

open_is : (claim : Option Claim) (near : Option Near) (found : Near) → open_near claim near ≡ Some found
    → (claim ≡ None) × (near ≡ Some found)
open_is None near found e = (refl, e)
open_is (Some claim) near found e = absurd (none-some found e)

-- a place at which the slack is 0 is the nearest
pub exact_is_nearest : (claims : ClaimsParts) (nears : List (Option Near)) (place : ℕ) (near : Near)
    → place < length nears → near.slack ≡ 0
    → open_near (claim_at claims place) (get_or nears place None) ≡ Some near
    → IsNearestPlace claims nears place near
exact_is_nearest claims nears place near within exact is = grind (arith, open_is, get_or)

-- the nearest of all places
pub best_all : (claims : ClaimsParts) (nears : List (Option Near)) (done : ℕ) (best : Option (ℕ × Near))
    → IsBest claims nears done best → done ≡ length nears
    → MatchOption best
    ((place : ℕ) → place < length nears → claim_at claims place ≡ None → get_or nears place None ≡ None)
    (λ found. IsNearestPlace claims nears found.0 found.1)
best_all claims nears done None are all = λ place within free.
    ap (λ claim. open_near claim (get_or nears place None)) (sym free) ∙ are place (omega (arith, within, all))
best_all claims nears done (Some found) are all = grind arith
