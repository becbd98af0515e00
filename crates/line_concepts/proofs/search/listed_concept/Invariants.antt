-- The entries so far, each with a step, and those of the regions that wait are the listing.
use Rattle.plan_num.proofs.Common.{◌≡◌, ◌+◌}
use Rattle.line_concepts.specs.Searches.{IsSearched}
use Rattle.line_concepts.proofs.search.listed_concept.Given as goal

abbrev pub invariant-loop-entry : goal.invariant-loop-entry
invariant-loop-entry g l = record {
  problem : l.search.walk.problem ≡ l.problem;
  searched : IsSearched l.problem l.search l.entry;
  steps : l.steps ≡ l.fn.steps + l.entry;
}
