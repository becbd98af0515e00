use Rattle.plan_num.proofs.Common.{arith}
use Rattle.line_concepts.proofs.RightSearches.{listing_whole, result_right, search_right}
use Rattle.line_concepts.proofs.search.search_concept.Goals as goal

pub returns-clause-right : goal.returns-clause-right
returns-clause-right g c = grind (arith, result_right)

pub returns-clause-finds : goal.returns-clause-finds
returns-clause-finds g c = search_right c.args.problem.now c.line_count.ensures.sound

pub returns-clause-listed : goal.returns-clause-listed
returns-clause-listed g c = listing_whole c.args.problem.now
