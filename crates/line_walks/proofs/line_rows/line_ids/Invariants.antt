-- The ids are those of the lines of the rows so far.
use Rattle.plan_num.proofs.Common.{◌≡◌, ℤ, take, list_any, int_eq}
use Rattle.line_walks.specs.LinesSoFar.{lines_in}
use Rattle.line_walks.proofs.line_rows.line_ids.Given as goal

abbrev pub invariant-loop-i : goal.invariant-loop-i
invariant-loop-i g l = (id : ℤ) → list_any (int_eq id) l.ids.keys ≡ list_any (int_eq id) (lines_in (take l.i l.table))
