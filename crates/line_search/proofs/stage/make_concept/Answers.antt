use Rattle.plan_num.proofs.Common.{arith}
use Rattle.line_search.specs.GivenProblems.{problem_of}
use Rattle.giv_files.proofs.Common.{right_given}
use Rattle.line_search.proofs.ConceptReads.{concept_is_right}
use Rattle.line_search.proofs.NoConcepts.{none_told}
use Rattle.line_search.proofs.SearchRight.{search_right}
use Rattle.line_concepts.proofs.RightSearches.{listing_whole}
use Rattle.line_search.proofs.StageResults.{whole_given}
use Rattle.line_search.proofs.stage.make_concept.Goals as goal

pub returns-clause-right : goal.returns-clause-right
returns-clause-right g c = search_right c.args.bundle.now

pub returns-clause-listed : goal.returns-clause-listed
returns-clause-listed g c = listing_whole (problem_of c.args.bundle.now)

pub returns-clause-none : goal.returns-clause-none
returns-clause-none g c =
    none_told c.args.bundle.now c.searched_concept.result c.searched_concept.ensures.made

pub returns-clause-files : goal.returns-clause-files
returns-clause-files g c = grind (arith, right_given, concept_is_right)

pub returns-clause-whole : goal.returns-clause-whole
returns-clause-whole g c =
    whole_given c.args.bundle.now c.searched_concept.result c.searched_concept.ensures.made
