-- What a search finds over the inputs of the stage is right.
use Rattle.plan_num.proofs.Common.{◌≡◌, []}
use Rattle.giv_files.proofs.Common.{BundleParts}
use Rattle.line_search.specs.GivenProblems.{problem_faults, problem_of}
use Rattle.line_concepts.specs.RightSearches.{SearchIsRight}
use Rattle.line_concepts.proofs.RightSearches.{search_right as right_over}
use Rattle.line_search.proofs.SoundProblems.{problem_sound}

pub search_right : (bundle : BundleParts) → problem_faults bundle ≡ []
    → SearchIsRight (problem_of bundle)
search_right bundle none = right_over (problem_of bundle) (problem_sound bundle none)
