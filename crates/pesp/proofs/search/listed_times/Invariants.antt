-- The entries so far, each with a step, and those that are listed behind them.
use Rattle.plan_num.proofs.Common.{◌≡◌, ◌+◌}
use Rattle.pesp.specs.Marks.{IsSettled}
use Rattle.pesp.specs.Revising.{IsReady}
use Rattle.pesp.specs.Searches.{IsSearched}
use Rattle.pesp.proofs.search.listed_times.Given as goal

abbrev pub invariant-loop-entry : goal.invariant-loop-entry
invariant-loop-entry g l = record {
  searched : IsSearched l.pesp l.sets l.entry;
  ready : IsReady l.pesp l.sets l.changed;
  settled : IsSettled l.sets.sets l.from;
  steps : l.steps ≡ l.fn.steps + l.entry;
}
