-- How a search ends is right, since its listing is.
use Rattle.plan_num.proofs.Common.{ℕ, Result, Ok, Err, IfOk, subst, arith}
use Rattle.plan_num.specs.declared.memory.NoMemory.{NoMemory}
use Rattle.pesp.specs.declared.search.SearchEnd.{SearchEnd}
use Rattle.pesp.specs.declared.search.SearchEnd.TheVariants as ends
use Rattle.pesp.specs.Listings.{Tells, listing}
use Rattle.pesp.specs.SearchEnds.{EndIsRight, EndsAs}
use Rattle.pesp.specs.Timetables.{IsProblem, Problem}
use Rattle.pesp.proofs.ListingRight.{listing_right}

module _ (problem : Problem) (budget : ℕ) (sound : IsProblem problem) where
  end_right : (end : SearchEnd) → EndsAs budget (listing problem) end
      → EndIsRight problem budget end
  end_right (ends.Found found) told = grind (arith, listing_right)
  end_right ends.NoSolution told = subst (Tells problem) told.1 (listing_right problem sound).tells
  end_right ends.Spent told = omega (arith, told, (listing_right problem sound).short)

  pub result_right : (result : Result SearchEnd NoMemory)
      → IfOk result (EndsAs budget (listing problem)) → IfOk result (EndIsRight problem budget)
  result_right (Ok end) told = end_right end told
  result_right (Err why) told = tt
