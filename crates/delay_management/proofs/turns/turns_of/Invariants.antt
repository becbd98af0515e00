-- The turns so far and those of the rows that are left are all of them.
use Rattle.plan_num.proofs.Common.{◌≡◌, ◌++◌, drop, filter, map}
use Rattle.event_tables.proofs.Common.{is_empty_row}
use Rattle.delay_management.specs.InputProblems.{turn_of}
use Rattle.delay_management.proofs.turns.turns_of.Given as goal

abbrev pub invariant-loop-row : goal.invariant-loop-row
invariant-loop-row l =
    l.turns.items ++ map (turn_of l.turnover) (filter is_empty_row (drop l.row-index l.rows))
    ≡ map (turn_of l.turnover) (filter is_empty_row l.rows)
