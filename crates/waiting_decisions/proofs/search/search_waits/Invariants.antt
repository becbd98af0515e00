-- The search is behind so many entries of the listing, and each took a step.
use Rattle.plan_num.proofs.Common.{◌≡◌, ◌+◌, ◌≤◌, length}
use Rattle.waiting_decisions.specs.Listings.{listing}
use Rattle.waiting_decisions.specs.Searches.{IsBehind, IsCheap}
use Rattle.waiting_decisions.proofs.search.search_waits.Given as goal

abbrev pub invariant-loop-entry : goal.invariant-loop-entry
invariant-loop-entry g l = record {
  behind : IsBehind l.problem l.penalty l._entry l.search;
  cheap : IsCheap l.search.best;
  within : l._entry ≤ length (listing l.problem l.penalty);
  steps : l.steps ≡ l.fn.steps + l._entry;
}
