use Rattle.pesp.proofs.EndsRight.{result_right}
use Rattle.pesp.proofs.ListingRight.{listing_right, listing_whole}
use Rattle.pesp.proofs.search.search_times.Goals as goal

pub returns-clause-right : goal.returns-clause-right
returns-clause-right g c =
    result_right c.args.pesp.now c.args.budget c.listed_times.ensures.problem c.listed_times.result
    c.listed_times.ensures.found

pub returns-clause-finds : goal.returns-clause-finds
returns-clause-finds g c = listing_right c.args.pesp.now c.listed_times.ensures.problem

pub returns-clause-listed : goal.returns-clause-listed
returns-clause-listed g c = listing_whole c.args.pesp.now
