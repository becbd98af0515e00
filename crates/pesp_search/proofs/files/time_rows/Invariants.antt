-- The rows so far are those of the first times.
use Rattle.plan_num.proofs.Common.{◌≡◌, take}
use Rattle.pesp_search.specs.TimetableStage.{time_rows}
use Rattle.pesp_search.proofs.files.time_rows.Given as goal

abbrev pub invariant-loop-index : goal.invariant-loop-index
invariant-loop-index l = l.rows.items ≡ take l.index (time_rows l.times)
