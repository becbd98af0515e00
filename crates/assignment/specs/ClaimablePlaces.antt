-- Inner words of the choice: places as bits of rows, and those that a search may claim.
use Rattle.std.specs.Prelude.{ℕ, ◌≡◌, ◌+◌, ◌<◌, Bool, true, false, List, slice_get, Option, Some, None, IfSome}
use Rattle.bit_rows.specs.Bits.{Bits, has}
use Rattle.link_plans.specs.Potentials.{PotentialParts}
use Rattle.assignment.specs.Choices.{IsUndecided, is_claimed}
use Rattle.plan_search.specs.Claims.{ClaimsParts, claim_at}
use Rattle.link_plans.specs.Places.{place_of}
use Rattle.plan_search.specs.Searches.{IsTightBy}
use Rattle.link_plans.specs.Links.{Links}

-- one bit is as told, and all others are as before
pub record IsPut (before after : Bits) (row place : ℕ) (is : Bool) : Type 0 where
  pub rows : after.rows ≡ before.rows
  pub columns : after.columns ≡ before.columns
  pub here : has after row place ≡ is
  pub others : (r c : ℕ) → r < before.rows → (r ≡ row → c ≡ place → ⊥)
      → has after r c ≡ has before r c

-- bits of one row alone are others than before
pub record IsInRow (before after : Bits) (row : ℕ) : Type 0 where
  pub rows : after.rows ≡ before.rows
  pub columns : after.columns ≡ before.columns
  pub others : (r c : ℕ) → r < before.rows → (r ≡ row → ⊥) → has after r c ≡ has before r c

-- a row of bits has the places below a number for which something holds
pub record IsRowOf (P : ℕ → Type 0) (below : ℕ) (bits : Bits) (row : ℕ) : Type 0 where
  pub right : (place : ℕ) → has bits row place ≡ true → (place < below) × P place
  pub all : (place : ℕ) → place < below → P place → has bits row place ≡ true

-- for each trip the places at which it is tight, and in the last row those that need no trip
pub record AreTies (links : Links) (potentials : PotentialParts) (ties : Bits) : Type 0 where
  pub rows : ties.rows ≡ links.count + 1
  pub columns : ties.columns ≡ links.count + 1
  pub row : (by : Option ℕ) → IfSome by (λ i. i < links.count)
      → IsRowOf (λ place. IsTightBy links potentials place by) (links.count + 1) ties
      (place_of links.count by)

-- the places that can be claimed, in one row: those that are undecided and not claimed
pub record AreClaimable (count low : ℕ) (plan : List (Option ℕ)) (claims : ClaimsParts)
    (places : Bits) : Type 0 where
  pub rows : places.rows ≡ 1
  pub columns : places.columns ≡ count + 1
  pub undecided : (place : ℕ) → has places 0 place ≡ true → IsUndecided plan low place
  pub unclaimed : (place : ℕ) → has places 0 place ≡ true → claim_at claims place ≡ None
  pub all : (place : ℕ) → place < count + 1 → IsUndecided plan low place
      → has places 0 place ≡ false → is_claimed claims place ≡ true

-- the places of a list up to a step are put back, and no other ones
pub record ArePutBack (order : List ℕ) (step : ℕ) (before after : Bits) : Type 0 where
  pub rows : after.rows ≡ before.rows
  pub columns : after.columns ≡ before.columns
  pub kept : (place : ℕ) → has before 0 place ≡ true → has after 0 place ≡ true
  pub back : (k place : ℕ) → k < step → slice_get order k ≡ Some place → has after 0 place ≡ true
  pub only : (place : ℕ) → has after 0 place ≡ true → has before 0 place ≡ false
      → (k : ℕ) × (slice_get order k ≡ Some place)

-- the place of what comes after a trip is taken out, where something comes
abbrev pub IsTakenOut : Option ℕ → Bits → Bits → Type 0
IsTakenOut None before after = after ≡ before
IsTakenOut (Some place) before after = IsPut before after 0 place false
