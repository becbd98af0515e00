-- The rows from here on tell the frequency.
use Rattle.plan_num.proofs.Common.{◌≡◌, drop}
use Rattle.line_search.specs.ConceptTables.{frequency_in}
use Rattle.line_search.proofs.frequencies.line_frequency.Given as goal

abbrev pub invariant-loop-row : goal.invariant-loop-row
invariant-loop-row l = frequency_in l.table l.id ≡ frequency_in (drop l.row l.table) l.id
