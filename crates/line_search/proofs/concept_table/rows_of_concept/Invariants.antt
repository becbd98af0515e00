-- The table has the rows of the lines so far.
use Rattle.plan_num.proofs.Common.{◌≡◌}
use Rattle.line_search.proofs.ConceptRows.{rows_of_lines}
use Rattle.line_search.proofs.concept_table.rows_of_concept.Given as goal

abbrev pub invariant-loop-line : goal.invariant-loop-line
invariant-loop-line l = l.table ≡ rows_of_lines l.problem l.frequencies l.line
