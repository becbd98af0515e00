-- The times so far are those of the rows so far.
use Rattle.plan_num.proofs.Common.{◌≡◌, map, take}
use Rattle.pesp_search.proofs.pinned.times_of.Given as goal

abbrev pub invariant-loop-row : goal.invariant-loop-row
invariant-loop-row l = l.times.items ≡ map (λ row. row.time) (take l.row-index l.rows)
