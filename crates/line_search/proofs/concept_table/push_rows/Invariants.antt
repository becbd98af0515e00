-- The table has the rows of the edges so far.
use Rattle.plan_num.proofs.Common.{◌≡◌, ◌++◌}
use Rattle.line_search.proofs.ConceptRows.{rows_to}
use Rattle.line_search.proofs.concept_table.push_rows.Given as goal

abbrev pub invariant-loop-place : goal.invariant-loop-place
invariant-loop-place l =
    l.table ≡ l.initial.table ++ rows_to l.problem l.id l.frequency l.edge-items l.place
