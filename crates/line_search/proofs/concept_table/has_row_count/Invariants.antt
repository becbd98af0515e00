-- What is left is the number of the rows of the lines from here on, or both counts differ.
use Rattle.plan_num.proofs.Common.{◌≡◌, drop, nat_eq}
use Rattle.line_search.specs.ConceptTables.{row_count}
use Rattle.line_search.proofs.concept_table.has_row_count.Given as goal

abbrev pub invariant-loop-line : goal.invariant-loop-line
invariant-loop-line l =
    nat_eq l.count (row_count l.problem.lines)
    ≡ nat_eq l.left (row_count (drop l.line l.problem.lines))
