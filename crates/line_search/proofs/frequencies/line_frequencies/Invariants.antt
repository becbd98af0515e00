-- The frequencies are those of the lines so far, and none is too great.
use Rattle.plan_num.proofs.Common.{◌≡◌, ◌≤◌, take, All}
use Rattle.line_search.specs.ConceptTables.{frequencies_in}
use Rattle.line_search.proofs.frequencies.line_frequencies.Given as goal

abbrev pub invariant-loop-line : goal.invariant-loop-line
invariant-loop-line l =
    record {
      are : l.frequencies.items ≡ take l.line (frequencies_in l.problem l.table);
      few : All (λ frequency. frequency ≤ 1000) l.frequencies.items;
    }
