-- The least frequencies of the lines so far.
use Rattle.plan_num.proofs.Common.{◌≡◌, ◌≤◌, map, take, All}
use Rattle.line_concepts.proofs.best.least_frequencies.Given as goal

abbrev pub invariant-loop-line : goal.invariant-loop-line
invariant-loop-line l = record {
  least : l.frequencies.items ≡ map (λ range. range.lo) (take l.line l.region.ranges);
  few : All (λ frequency. frequency ≤ 1000) l.frequencies.items;
}
