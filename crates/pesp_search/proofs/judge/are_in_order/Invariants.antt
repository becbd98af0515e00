-- What is left of the rows tells whether all of them are in order.
use Rattle.plan_num.proofs.Common.{◌≡◌, ◌+◌, drop, enumerate_from, list_all}
use Rattle.event_tables.proofs.Common.{periodic_time}
use Rattle.tables.proofs.Common.{records_by}
use Rattle.pesp_search.specs.Judged.{is_time_of}
use Rattle.pesp_search.proofs.judge.are_in_order.Given as goal

abbrev pub invariant-loop-row : goal.invariant-loop-row
invariant-loop-row l =
    list_all (is_time_of l.period) (enumerate_from 1 (records_by periodic_time l.table))
    ≡ list_all (is_time_of l.period) (enumerate_from (l.row + 1) (records_by periodic_time (drop l.row l.table)))
