-- The times so far and those of the events that are left are all of them.
use Rattle.plan_num.proofs.Common.{◌≡◌, ◌++◌, ◌≤◌, drop, map, All}
use Rattle.delay_management.specs.InputProblems.{earliest_of}
use Rattle.delay_management.proofs.delays.earliest_times.Given as goal

abbrev pub invariant-loop-index : goal.invariant-loop-index
invariant-loop-index l = record {
  told : l.times.items ++ map (earliest_of l.rows) (drop l.index l.events) ≡ map (earliest_of l.rows) l.events;
  soon : All (λ time. time ≤ 8589934590) l.times.items;
}
