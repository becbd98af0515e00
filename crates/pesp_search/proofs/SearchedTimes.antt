-- What a search gives the stage, by how it ends.
use Rattle.plan_num.proofs.Common.{arith, ◌≡◌, ◌∙◌, ℕ, ◌≤◌, Ok, Err, ap, le-ltb, lt-ltb}
use Rattle.tables.specs.declared.refusal.Refusal.TheVariants as refusal
use Rattle.pesp.specs.declared.search.FoundTimes.{FoundTimes}
use Rattle.pesp.specs.declared.search.SearchEnd.TheVariants as ends
use Rattle.pesp.specs.Listings.{Listing}
use Rattle.pesp.specs.SearchEnds.{EndsAs}
use Rattle.pesp_search.specs.SearchResults.{result_within, whole_result}

module _ (budget : ℕ) (listed : Listing) where
  result_whole : listed.entries ≤ budget
      → result_within budget listed ≡ whole_result listed.entries listed.found
  unfolding result_within
  result_whole within = grind (arith, le-ltb)

  pub times_given : (found : FoundTimes) → EndsAs budget listed (ends.Found found)
      → result_within budget listed
      ≡ Ok (record { times = found.times.items; entries = found.entries })
  times_given found told = grind (arith, result_whole)

  pub none_given : EndsAs budget listed ends.NoSolution
      → result_within budget listed ≡ Err refusal.NoSolution
  none_given told = result_whole told.0 ∙ ap (whole_result listed.entries) told.1

  pub spent_given : EndsAs budget listed ends.Spent
      → result_within budget listed ≡ Err (refusal.Spent budget)
  unfolding result_within
  spent_given over = grind (arith, lt-ltb)
