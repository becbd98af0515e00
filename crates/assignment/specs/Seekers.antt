-- Inner words of the choice: a trip that seeks its first place, and what its search keeps.
use Rattle.std.specs.Prelude.{ℕ, ◌≡◌, List, Option}
use Rattle.bit_rows.specs.Bits.{Bits}
use Rattle.assignment.specs.Choices.{AreMore, AreOthers, AreRight, IsSearch}
use Rattle.assignment.specs.ClaimablePlaces.{AreClaimable, AreTies}
use Rattle.plan_search.specs.Claims.{ClaimsParts}
use Rattle.plan_search.specs.Searches.{Search}

-- a trip seeks its first place among those at which it is tight
pub record IsSeeker (search : Search) (plan : List (Option ℕ)) (trip : ℕ) (ties : Bits) : Type 0 where
  pub is : IsSearch search plan
  pub trip_is : search.trip ≡ trip
  pub ties_are : AreTies search.links search.potentials ties

-- the claims are right, and the places are those that can still be claimed
pub record AreKept (search : Search) (plan : List (Option ℕ)) (claims : ClaimsParts)
    (places : Bits) : Type 0 where
  pub right : AreRight search plan claims
  pub claimable : AreClaimable search.links.count search.low plan claims places

-- and some more are claimed, none of them for the trip that seeks
pub record HaveMore (search : Search) (plan : List (Option ℕ)) (before after : ClaimsParts)
    (places : Bits) : Type 0 where
  pub kept : AreKept search plan after places
  pub more : AreMore before after
  pub others : AreOthers search before after
