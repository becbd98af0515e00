-- The entries so far and those of the regions that wait are the listing.
use Rattle.branch_and_bound.specs.Searches.{IsSearched}
use Rattle.branch_and_bound.proofs.finding.find_best.Given as goal

abbrev pub invariant-loop-entry : goal.invariant-loop-entry
invariant-loop-entry g l =
    IsSearched (g.B.Branching.problem l.problem) (g.B.Branching.Fits l.problem) l.search l.entry
