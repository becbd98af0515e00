-- The times so far are those of the first rows.
use Rattle.plan_num.proofs.Common.{◌≡◌, map, take}
use Rattle.event_tables.proofs.Common.{periodic_time}
use Rattle.tables.proofs.Common.{records_by}
use Rattle.pesp_search.proofs.judge.times_of.Given as goal

abbrev pub invariant-loop-row : goal.invariant-loop-row
invariant-loop-row l =
    l.times.items ≡ take l.row (map (λ row. row.time) (records_by periodic_time l.table))
