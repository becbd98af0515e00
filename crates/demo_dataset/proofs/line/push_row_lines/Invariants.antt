use Rattle.plan_num.proofs.Common.{◌≡◌, ◌-◌, ◌++◌, map}
use Rattle.demo_dataset.specs.Grid.{one_to, row_line}
use Rattle.demo_dataset.proofs.line.push_row_lines.Given as goal

-- the lines of the rows so far are there
abbrev pub invariant-loop-row : goal.invariant-loop-row
invariant-loop-row l = l.lines.items
    ≡ l.initial.lines.items ++ map (row_line l.size) (one_to (l.row - 1))
