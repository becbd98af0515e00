use Rattle.plan_num.proofs.Common.{◌≡◌, take, flat_map}
use Rattle.demo_dataset.specs.Rows.{line_rows}
use Rattle.demo_dataset.proofs.rows.pool_text.Given as goal

-- the rows of the lines so far
abbrev pub invariant-loop-line : goal.invariant-loop-line
invariant-loop-line l = l.text.items ≡ flat_map line_rows (take l.line-index l.lines)
